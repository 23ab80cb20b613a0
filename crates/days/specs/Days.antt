-- What is seen of a day, and how many runs of source keys show it.
use Rattle.std.specs.Prelude.{ℕ, ◌-◌, ◌≡◌, Bool, ◌↔◌, List, T, ℤ}
use Rattle.secrecy.specs.Counts.{count}
use Rattle.secrecy.specs.Model.{Pool, in_either, set_view}
use Rattle.plans.specs.declared.Plan.{Plan}
use Rattle.vetting.specs.Pools.{pool_of}
use Rattle.days.specs.Runs.{Run, run_symbols, seen_of, uploads_of, sent_in, day_travelling, signed_uploads_of}
use Rattle.days.specs.Machines.{Machine, Entry, Transcript, transcript}
use Rattle.days.specs.Observers.{RelayCall, relay_machine, machine_of}

-- the view (document 02: sight) of a day: of each round what is seen besides the calls, and the transcript of the calls
abbrev pub DayView : Machine → Type 0
DayView M = List (List ℕ) × Transcript M

-- observer w, a schedule of its machine, and what is seen of each round besides: `known`, which is the coalition's readings and keys; or `view`, which also has
-- all that is sent in the round, whether or not a frame with it comes
module _ (P : Pool) (run : Run) (w : ℕ) (schedule : List (Entry (machine_of P w).Call)) (see : ℕ → List ℕ → List ℕ → List ℕ) where
  -- the readings W, a run of source keys N, and the block that user i uploads in round k
  abbrev pub day_of : (ℕ → List ℕ) → List ℕ → (ℕ → ℕ → List ℕ) → DayView (machine_of P w)
  day_of W N U = (seen_of P run see W N, transcript (machine_of P w) run.number (sent_in P run U w) schedule)

  abbrev pub day_view : (ℕ → List ℕ) → List ℕ → DayView (machine_of P w)
  day_view W N = day_of W N (uploads_of P run W N)

-- the same under signed readings R: those of the coalition are seen as they travel
abbrev pub signed_day_view : (P : Plan) (K : List ℕ) (run : Run) (w : ℕ) → List (Entry (machine_of (pool_of P K) w).Call)
    → (ℕ → List ℕ → List ℕ → List ℕ) → (ℕ → List ℤ) → List ℕ → DayView (machine_of (pool_of P K) w)
signed_day_view P K run w schedule see R N =
    day_of (pool_of P K) run w schedule see (day_travelling P.q R) N (signed_uploads_of P K run R N)

-- relays a and b, from 1, under one lock: whoever opens it sees the days of both, that is, the joint view of each round and both transcripts
abbrev pub JointDay : Pool → ℕ → ℕ → Type 0
JointDay P a b = List (List ℕ) × (Transcript (relay_machine P a) × Transcript (relay_machine P b))

-- each has a schedule of its own; coalition g
module _ (P : Pool) (run : Run) (a b : ℕ) (first second : List (Entry RelayCall)) (g : ℕ) where
  abbrev pub joint_day_of : (ℕ → List ℕ) → List ℕ → (ℕ → ℕ → List ℕ) → JointDay P a b
  joint_day_of W N U = (
    seen_of P run (set_view P (in_either P (a - 1) (b - 1)) g) W N,
    (
      transcript (relay_machine P a) run.number (sent_in P run U a) first,
      transcript (relay_machine P b) run.number (sent_in P run U b) second,
    ),
  )

  abbrev pub joint_day : (ℕ → List ℕ) → List ℕ → JointDay P a b
  joint_day W N = joint_day_of W N (uploads_of P run W N)

abbrev pub signed_joint_day : (P : Plan) (K : List ℕ) (run : Run) (a b : ℕ) (first second : List (Entry RelayCall)) (g : ℕ)
    → (ℕ → List ℤ) → List ℕ → JointDay (pool_of P K) a b
signed_joint_day P K run a b first second g R N =
    joint_day_of (pool_of P K) run a b first second g (day_travelling P.q R) N (signed_uploads_of P K run R N)

-- how many runs of source keys show a view that passes a test
unfoldable pub runs_showing : {A : Type 0} → (P : Pool) (run : Run) → (List ℕ → A) → (A → Bool) → ℕ
runs_showing P run see test = count P.q (run_symbols P run) (λ N. test (see N))

-- the test for a stated view: it passes that one and no other
abbrev pub TestFor : {A : Type 0} → A → (A → Bool) → Type 0
TestFor {A} s test = (v : A) → T (test v) ↔ (v ≡ s)
