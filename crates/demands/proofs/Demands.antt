-- Each demand, from the theorem that proves it.
use Prim.Native.Nat.{ℕ}
use mathlib.Core.List.{List}
use Rattle.plans.specs.declared.Plan.{Plan}
use Rattle.vetting.proofs.ExactSecrecy.{accepted-equal-numbers, refused-iff-leaks, refused-names-first}
use Rattle.masking.proofs.BlockLaws.{unmask-gives-back}
use Rattle.rounds.proofs.LedgerLaws.{ledger-run, ledger-give}
use Rattle.rounds.proofs.Runs.{server-run, server-answers}
use Rattle.records.proofs.RecordChecks.{writable}
use Rattle.records.proofs.RecordLaws.{write_read, written-accepted, one-record}
use Rattle.streams.proofs.StreamLaws.{draws-give, draws-counted, draws-placed, draws-disjoint}
use Rattle.demands.specs.Demands.{KeysAre, UploadsAre, RelaySumsAre, TotalIs, TotalIsSum, AcceptedIsZeroSum, Unmasks, EqualNumbers, RefusedIffLeaks}
use Rattle.demands.specs.Demands.{NamesFirst}
use Rattle.demands.specs.Demands.{CallsAreRuns, AnswersAsLedger, WrittenIsRead, OneRecord, DrawnOnce}
use Rattle.demands.proofs.Totals.{relay-sums, server-sums, readings-to-total}
use Rattle.demands.proofs.Equations.{keys-are, sent_is, accepted-zero-sum}

-- ---- demand 2

module _ (P : Plan) (K : List ℕ) (L : ℕ) (W N : List ℕ) where
  pub keys : KeysAre P K L W N
  keys = keys-are P K L N

  pub uploads : UploadsAre P K L W N
  uploads h = sent_is P K h L W N

  pub relays : (round : ℕ) → RelaySumsAre P K L W N round
  relays = relay-sums P K L W N

  pub total : (round : ℕ) → TotalIs P K L W N round
  total = server-sums P K L W N

  pub total-is-sum : (round : ℕ) → TotalIsSum P K L W N round
  total-is-sum = readings-to-total P K L W N

pub zero-sum : AcceptedIsZeroSum
zero-sum = accepted-zero-sum

pub unmasks : Unmasks
unmasks = unmask-gives-back

-- ---- demand 3

module _ (P : Plan) (K : List ℕ) where
  pub equal-numbers : EqualNumbers P K
  equal-numbers = accepted-equal-numbers P K

  pub refused-iff : RefusedIffLeaks P K
  refused-iff = refused-iff-leaks P K

  pub names-first : NamesFirst P K
  names-first = refused-names-first P K

-- ---- rounds, records and key streams

pub calls-are-runs : CallsAreRuns
calls-are-runs R frames = (server-run R frames, server-answers R frames)

pub answers-as-ledger : AnswersAsLedger
answers-as-ledger senders known R sixty-four frames =
    let (answers, round) = ledger-run senders known R sixty-four frames in
    (answers, round, ledger-give senders known R sixty-four frames)

pub written-is-read : WrittenIsRead
written-is-read before P K out lent e l =
    let r = write_read before P K (writable P K out e).table in
    (written-accepted before P K out lent e l, r.plan, r.table)

pub record-is-one : OneRecord
record-is-one = one-record

pub drawn-once : DrawnOnce
drawn-once stream position draws = (
  draws-give stream position draws,
  draws-counted stream position draws,
  draws-placed stream position draws,
  draws-disjoint
      stream position draws,
)
