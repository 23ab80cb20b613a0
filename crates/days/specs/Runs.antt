-- "any run of rounds, each with a key block of its own". The rounds of a run count from 0. A day's readings are given round by round: W 0, W 1, ..
-- A run of source keys (document 01: key blocks) is written as one list, source key after source key: it is any list of `run_symbols` symbols.
use Rattle.std.specs.Prelude.{ℕ, zero, suc, ◌+◌, ◌-◌, ◌*◌, ◌%◌, ◌≤◌, ◌<◌, cond, ◌&&◌, List, [], ltb, ℤ, take, drop}
use Rattle.lists.specs.Lists.{at, tab}
use Rattle.lists.specs.Sums.{sum_to}
use Rattle.secrecy.specs.Model.{Pool, users, key, upload}
use Rattle.secrecy.specs.Leaks.{longest, Symbols}
use Rattle.plans.specs.declared.Plan.{Plan}
use Rattle.vetting.specs.Pools.{pool_of}
use Rattle.rounds.specs.Rounds.{one_of}
use Rattle.signed.specs.Numbers.{travelling}
use Rattle.signed.specs.SignedBlocks.{signed_upload_of}
use Rattle.signed.specs.SignedLeaks.{Capped}

-- how many rounds; and of each its number and its block length
pub record Run : Type 0 where
  pub rounds : ℕ
  pub number : ℕ → ℕ
  pub length : ℕ → ℕ

-- "block length L from 1 to 64"
pub record Lengths (run : Run) : Type 0 where
  pub low : (k : ℕ) → k < run.rounds → 1 ≤ run.length k
  pub high : (k : ℕ) → k < run.rounds → run.length k ≤ longest

module _ (P : Pool) (run : Run) where
  -- how many symbols the source key of round k has; and a run of source keys
  abbrev pub key_symbols : ℕ → ℕ
  key_symbols k = run.length k * P.rate

  abbrev pub run_symbols : ℕ
  run_symbols = sum_to run.rounds key_symbols

  -- the source key of round k
  abbrev pub source_key : List ℕ → ℕ → List ℕ
  source_key N k = take (key_symbols k) (drop (sum_to k key_symbols) N)

  -- of each round what `see` shows, under the readings W and the run of source keys N
  unfoldable pub seen_of : (ℕ → List ℕ → List ℕ → List ℕ) → (ℕ → List ℕ) → List ℕ → List (List ℕ)
  seen_of see W N = tab run.rounds (λ k. see (run.length k) (W k) (source_key N k))

-- ---- what is sent: "a frame carries its sender's upload (for the desk, gateway sum) of its round"

-- how many send to observer w: to the server the relays, to a relay the users of its cluster
abbrev pub senders : Pool → ℕ → ℕ
senders P zero = P.clusters
senders P (suc u) = P.size

-- what sender s, from 1, sends to observer w in a round of L positions in which user i uploads U i: a relay the sum of its cluster's uploads, a user its upload
abbrev pub sent : Pool → ℕ → (ℕ → List ℕ) → ℕ → ℕ → List ℕ
sent P L U zero s = tab L (λ p. sum_to P.size (λ v. at (U ((s - 1) * P.size + v)) p) % P.q)
sent P L U (suc u) s = U (u * P.size + (s - 1))

module _ (P : Pool) (run : Run) where
  -- in round k, in which user i uploads U k i; nothing where there is no such round or sender
  unfoldable pub sent_in : (ℕ → ℕ → List ℕ) → ℕ → ℕ → ℕ → List ℕ
  sent_in U w k s = cond (ltb k run.rounds && one_of (senders P w) s) (sent P (run.length k) (U k) w s) []

  -- the block that user i uploads in round k
  abbrev pub uploads_of : (ℕ → List ℕ) → List ℕ → ℕ → ℕ → List ℕ
  uploads_of W N k i = tab (run.length k) (upload P (run.length k) (W k) (source_key P run N k) i)

  -- ---- two days' readings, which are any symbols, "agree .. in each round"

  pub record DaysAgree (agrees : ℕ → List ℕ → List ℕ → Type 0) (W W' : ℕ → List ℕ) : Type 0 where
    pub symbols : (k : ℕ) → k < run.rounds → Symbols P.q (users P) (run.length k) (W k)
    pub symbols' : (k : ℕ) → k < run.rounds → Symbols P.q (users P) (run.length k) (W' k)
    pub same : (k : ℕ) → k < run.rounds → agrees (run.length k) (W k) (W' k)

-- ---- signed readings

-- those of each round as they travel
abbrev pub day_travelling : ℕ → (ℕ → List ℤ) → ℕ → List ℕ
day_travelling q R k = travelling q (R k)

-- the block that user i uploads in round k, of a plan P with key table K: of its L readings, under its key
abbrev pub signed_uploads_of : (P : Plan) (K : List ℕ) (run : Run) → (ℕ → List ℤ) → List ℕ → ℕ → ℕ → List ℕ
signed_uploads_of P K run R N k i =
    let L : ℕ = run.length k in
    signed_upload_of P L (take L (drop (i * L) (R k))) (tab L (key (pool_of P K) (source_key (pool_of P K) run N k) i))

module _ (P : Pool) where
  -- two days' signed readings, "none of them refused with 15", which are inside the cap m
  pub record SignedDaysAgree (run : Run) (m : ℕ) (agrees : ℕ → List ℤ → List ℤ → Type 0) (R R' : ℕ → List ℤ) : Type 0 where
    pub capped : (k : ℕ) → k < run.rounds → Capped P m (run.length k) (R k)
    pub capped' : (k : ℕ) → k < run.rounds → Capped P m (run.length k) (R' k)
    pub same : (k : ℕ) → k < run.rounds → agrees (run.length k) (R k) (R' k)
