-- Bytes read into a buffer behind those that stand in it.
use Rattle.std.proofs.Common.{◌≡◌, ℕ, ◌+◌, ◌≤◌, List, ◌++◌, None, Some, length, take, drop, sym, ap, ap₂, ◌∙◌, append_assoc, subst, drop_at, length-take-le, length-append, arith}
use Rattle.std.proofs.Math.Seq.{take-add}
use Rattle.std.proofs.lemmas.List.{take-append-le}
use borrow.Rule.Slice.PartMut.{put_mid, take_put}
use Rattle.std.specs.declared.option.Option.{Option}
use Rattle.std.specs.Io.KnownBytes.{Consumes}

-- a run of bytes after another
pub consumes-append : (a b c : Option (List ℕ)) (bs cs : List ℕ) → Consumes a b bs → Consumes b c cs → Consumes a c (bs ++ cs)
consumes-append None b c bs cs p q = tt
consumes-append (Some x) None c bs cs p q = absurd p
consumes-append (Some x) (Some y) None bs cs p q = absurd q
consumes-append (Some x) (Some y) (Some z) bs cs p q = p ∙ ap (λ l. bs ++ l) q ∙ sym (append_assoc bs cs z)

-- the first n places written behind the first f
pub front-put : (f n k : ℕ) (xs ys : List ℕ) → f ≤ length xs → n ≤ length ys → take (f + n) (put_mid f k xs ys) ≡ take f xs ++ take n ys
front-put f n k xs ys h l =
    take-add f n (put_mid f k xs ys)
    ∙ ap₂ (λ u v. u ++ v) (take_put f k xs ys h) (ap (take n) (drop_at (take f xs) _ f (length-take-le f xs h)) ∙ take-append-le n ys _ l)

pub within-put : (f n k : ℕ) (xs ys : List ℕ) → f ≤ length xs → n ≤ length ys → f + n ≤ length (put_mid f k xs ys)
within-put f n k xs ys h l = omega (arith, length-append (take f xs) (ys ++ drop k (drop f xs)), length-append ys (drop k (drop f xs)), length-take-le f xs h)

pub consumes-more : (a b c : Option (List ℕ)) (f n k : ℕ) (xs ys : List ℕ) → f ≤ length xs → n ≤ length ys
    → Consumes a b (take f xs) → Consumes b c (take n ys) → Consumes a c (take (f + n) (put_mid f k xs ys))
consumes-more a b c f n k xs ys h l before read =
    subst (Consumes a c) (sym (front-put f n k xs ys h l)) (consumes-append a b c (take f xs) (take n ys) before read)
