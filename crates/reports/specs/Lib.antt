-- What the program `vet` says of the bytes that it reads. Program has the order of its refusals and the line that it prints.
pub mod Program
