-- What has happened, in plain words, and the details; the words of the C header and of the Rust crate.
use Rattle.std.specs.Prelude.{ℕ, List, ◌++◌, codes, decimal}
use Rattle.refusals.specs.declared.Refusal.{Refusal}
use Rattle.refusals.specs.declared.Refusal.TheVariants.{OutOfBounds, NotPrime, NotASymbol, WrongLength, BadTrailer}
use Rattle.refusals.specs.declared.Refusal.TheVariants.{NotZeroSum, Leaks, UnknownNumber, BadBlockLength, LimitTooLarge}
use Rattle.refusals.specs.declared.Refusal.TheVariants.{AlreadyReported, NotFull, StreamTooShort, OtherRound, OutsideCap}
use Rattle.refusals.specs.declared.Refusal.TheVariants.{BadCap, BadWindow, BadRounds, JointLeaks, PastLimit, BadStock}
use Rattle.refusals.specs.declared.Refusal.TheVariants.{BadPattern, NotDecodable}

abbrev pub words_of : Refusal → List ℕ
words_of OutOfBounds = codes "a count is outside its bounds"
words_of NotPrime = codes "q is not a prime number, or is below 65,536 in a wide record"
words_of NotASymbol = codes "a symbol is not below q"
words_of WrongLength = codes "a table, block, buffer or record has the wrong length"
words_of BadTrailer = codes "the bytes don't end with a trailer that leads back to a record or save"
words_of (NotZeroSum column) = codes "the key table's rows don't sum to zero: column " ++ decimal column
words_of (Leaks coalition observer) = codes "the plan leaks: coalition " ++ (decimal coalition ++ (codes ", observer " ++ decimal observer))
words_of UnknownNumber = codes "there is no such user, relay, pool or pair of relays"
words_of BadBlockLength = codes "the block length is not from 1 to 64"
words_of LimitTooLarge = codes "no table can meet this coalition limit"
words_of AlreadyReported = codes "this sender has already reported in the frame's round"
words_of NotFull = codes "not everyone has reported yet, or a window has no total yet"
words_of StreamTooShort = codes "the key stream has too few symbols left"
words_of OtherRound = codes "the frame belongs to another round, or there is no next round"
words_of OutsideCap = codes "a signed reading is outside the cap"
words_of BadCap = codes "the cap is 0, or too large for q"
words_of BadWindow = codes "the window's span is not from 1 to 96, or the window is damaged"
words_of BadRounds = codes "the number of rounds is not from 1 to 10,000, or the run is over"
words_of (JointLeaks coalition) = codes "two relays under one lock leak: coalition " ++ decimal coalition
words_of PastLimit = codes "the draw would pass the pool's limit"
words_of BadStock = codes "a reserve is above its limit, the reserves are above the stream, or the stock is damaged"
words_of BadPattern = codes "the relays of a user are not 1 to K, or the symbols of a reading not 1 to 4"
words_of NotDecodable = codes "the sums that have arrived don't give all totals"
