-- Saves one after the other: which one each step back finds.
use Prim.Native.Nat.{ℕ, zero, suc, ◌+◌, ◌-◌, ◌≤◌}
use mathlib.Core.Path.{◌≡◌, refl, sym, ap, ap₂, ◌∙◌, subst}
use mathlib.Core.Bool.{Bool, true, false, not, ◌||◌}
use mathlib.Core.List.{List, [], ◌∷◌, ◌++◌, append_assoc, append-nil}
use native.Mathlib.Omega.{arith}
use borrow.Author.Tests.{le-leb}
use lib.Dec.{leb}
use lib.ListN.{length, take, drop, length-append, length-drop}
use lib.Seq.{take_at, drop_at, length-take-le}
use Rattle.lists.specs.Lists.{All}
use Rattle.lists.proofs.Members.{all_right}
use Rattle.refusals.specs.declared.Code.{Code}
use Rattle.refusals.specs.Codes.{code, accepted, first_of, is_accepted}
use Rattle.refusals.proofs.CodeLaws.{accepted-takes, new-taken, old-kept}
use Rattle.refusals.proofs.Orders.{rest-decides, number-accepts}
use Rattle.plans.specs.Plans.{counts_fit, length_fits}
use Rattle.rounds.specs.declared.RelayRound.{RelayRound}
use Rattle.rounds.specs.Relays.{relay_checks}
use Rattle.checkpoints.specs.Checkpoints.{save_size, save_of, save_checks, save_code, distance_at, end_back, bad_way, last_byte, round_read}
use Rattle.checkpoints.specs.Checkpoints.{restore_code, restored}
use Rattle.checkpoints.specs.Stores.{Store, used_bytes, store_after, stored, NoneRefused, RowsOf64}
use Rattle.checkpoints.proofs.StateLaws.{passed, savable, state-first}
use Rattle.checkpoints.proofs.Ways.{trailer-good}
use Rattle.checkpoints.proofs.Refused.{no_room}
use Rattle.checkpoints.proofs.RestoreChecks.{state-decides}
use Rattle.checkpoints.proofs.SaveLaws.{SavedAt, saved-at, save-length}

-- a round that passes its checks
pub record Sound (R : RelayRound) : Type 0 where
  pub rows : RowsOf64 R
  pub state : accepted ≡ first_of (relay_checks R)

-- the saves of these rounds, the last one first, behind the bytes in front
abbrev pub saves_of : List ℕ → List RelayRound → List ℕ
saves_of base [] = base
saves_of base (R ∷ earlier) = saves_of base earlier ++ save_of R

length-saves : (base : List ℕ) (R : RelayRound) (earlier : List RelayRound) → Sound R
    → length (saves_of base (R ∷ earlier)) ≡ length (saves_of base earlier) + save_size R.round.length
length-saves base R earlier s =
    length-append (saves_of base earlier) (save_of R)
    ∙ ap (λ (n : ℕ). length (saves_of base earlier) + n) (save-length [] R [] s.rows.0 s.rows.1 (passed R s.state))

-- the last of them ends with its trailer, whatever stands behind
last-save : (base : List ℕ) (R : RelayRound) (earlier : List RelayRound) (after B : List ℕ) → Sound R → B ≡ saves_of base (R ∷ earlier) ++ after
    → SavedAt B (length (saves_of base (R ∷ earlier))) R
last-save base R earlier after B s e =
    let there = saved-at (saves_of base earlier) R after s.rows.0 s.rows.1 (passed R s.state) in
    subst (λ (l : List ℕ). SavedAt l (length (saves_of base (R ∷ earlier))) R) (sym (e ∙ append_assoc (saves_of base earlier) (save_of R) after))
    (subst (λ (n : ℕ). SavedAt (saves_of base earlier ++ (save_of R ++ after)) n R) (sym (length-saves base R earlier s)) there)

-- one step back from it leads to the end of the one before
step_back : (base : List ℕ) (R : RelayRound) (earlier : List RelayRound) (after B : List ℕ) → Sound R → B ≡ saves_of base (R ∷ earlier) ++ after
    → length (saves_of base (R ∷ earlier)) - distance_at B (length (saves_of base (R ∷ earlier))) ≡ length (saves_of base earlier)
step_back base R earlier after B s e = omega (arith, length-saves base R earlier s, (last-save base R earlier after B s e).size)

-- what stands behind the save before
behind : (base : List ℕ) (R : RelayRound) (earlier : List RelayRound) (after B : List ℕ) → B ≡ saves_of base (R ∷ earlier) ++ after
    → B ≡ saves_of base earlier ++ (save_of R ++ after)
behind base R earlier after B e = e ∙ append_assoc (saves_of base earlier) (save_of R) after

-- as many steps back as there are later saves
way-to : (base : List ℕ) (later : List RelayRound) (R : RelayRound) (earlier : List RelayRound) (after B : List ℕ) → All Sound (later ++ (R ∷ earlier))
    → B ≡ saves_of base (later ++ (R ∷ earlier)) ++ after
    → (bad_way B (length later) (length (saves_of base (later ++ (R ∷ earlier)))) ≡ false)
    × (end_back B (length later) (length (saves_of base (later ++ (R ∷ earlier)))) ≡ length (saves_of base (R ∷ earlier)))
unfolding bad_way end_back
way-to base [] R earlier after B all e = (trailer-good B (length (saves_of base (R ∷ earlier))) (last-save base R earlier after B all.0 e).trailer, refl)
way-to base (X ∷ later) R earlier after B all e =
    let rest : List RelayRound = later ++ (R ∷ earlier) in
    let here : ℕ = length (saves_of base (X ∷ rest)) in
    let good = trailer-good B here (last-save base X rest after B all.0 e).trailer in
    let back = step_back base X rest after B all.0 e in
    let (way, end) = way-to base later R earlier (save_of X ++ after) B all.1 (behind base X rest after B e) in (
      ap (λ (t : Bool). t || bad_way B (length later) (here - distance_at B here)) good ∙ ap (bad_way B (length later)) back ∙ way,
      ap (end_back B (length later)) back ∙ end,
    )

-- and as many as there are saves, or more, with nothing in front
way-beyond : (base : List ℕ) → length base ≡ 0 → (Rs : List RelayRound) (after B : List ℕ) (n : ℕ) → All Sound Rs → B ≡ saves_of base Rs ++ after
    → length Rs ≤ n → bad_way B n (length (saves_of base Rs)) ≡ true
unfolding bad_way
way-beyond base none [] after B zero all e h = no_room B (length base) (omega (arith, none))
way-beyond base none [] after B (suc n) all e h =
    ap (λ (t : Bool). t || bad_way B n (length base - distance_at B (length base))) (no_room B (length base) (omega (arith, none)))
way-beyond base none (X ∷ rest) after B zero all e h = absurd (omega arith)
way-beyond base none (X ∷ rest) after B (suc n) all e h =
    let here : ℕ = length (saves_of base (X ∷ rest)) in
    let good = trailer-good B here (last-save base X rest after B all.0 e).trailer in
    ap (λ (t : Bool). t || bad_way B n (here - distance_at B here)) good
    ∙ ap (bad_way B n) (step_back base X rest after B all.0 e)
    ∙ way-beyond base none rest (save_of X ++ after) B n all.1 (behind base X rest after B e) (omega arith)

-- ---- restoring

-- a save that stands where the steps lead is restored
pub restore-saved : (B : List ℕ) (steps : ℕ) (R : RelayRound) → bad_way B steps (length B) ≡ false → SavedAt B (last_byte B steps) R
    → accepted ≡ first_of (relay_checks R)
    → (accepted ≡ restore_code B steps) × (restored B steps ≡ R)
restore-saved B steps R way at ok =
    let p = passed R ok in
    let same : round_read B steps ≡ R = at.round in
    let e : accepted ≡ restore_code B steps =
    ok
    ∙ ap (λ (X : RelayRound). first_of (relay_checks X)) (sym same)
    ∙ state-decides B steps way
    (ap (λ (X : RelayRound). counts_fit X.round.clusters X.round.size 0) same ∙ p.fit)
    (ap (λ (X : RelayRound). length_fits X.round.length) same ∙ p.long)
    (at.size ∙ ap (λ (X : RelayRound). save_size X.round.length) (sym same)) in
    (e, accepted-takes (restore_code B steps) (round_read B steps) _ e ∙ same)

pub chain-found : (base : List ℕ) (later : List RelayRound) (R : RelayRound) (earlier : List RelayRound) → All Sound (later ++ (R ∷ earlier))
    → (let B : List ℕ = saves_of base (later ++ (R ∷ earlier)) in (accepted ≡ restore_code B (length later)) × (restored B (length later) ≡ R))
chain-found base later R earlier all =
    let B : List ℕ = saves_of base (later ++ (R ∷ earlier)) in
    let whole : B ≡ B ++ [] = sym (append-nil B) in
    let (way, end) = way-to base later R earlier [] B all whole in
    let one : Sound R = (all_right Sound later (R ∷ earlier) all).0 in
    let (before, split) = front later (R ∷ earlier) in
    restore-saved B (length later) R way
    (subst (λ (n : ℕ). SavedAt B n R) (sym end) (last-save base R earlier before B one split)) one.state
  where
    -- what the later saves are
    front : (later rest : List RelayRound) → (after : List ℕ) × (saves_of base (later ++ rest) ≡ saves_of base rest ++ after)
    front [] rest = ([], sym (append-nil (saves_of base rest)))
    front (X ∷ later) rest =
        let (after, e) = front later rest in
        (after ++ save_of X, ap (λ (l : List ℕ). l ++ save_of X) e ∙ append_assoc (saves_of base rest) after (save_of X))

pub chain-beyond : (base : List ℕ) → length base ≡ 0 → (Rs : List RelayRound) (n : ℕ) → All Sound Rs → length Rs ≤ n → restore_code (saves_of base Rs) n ≡ code 5
chain-beyond base none Rs n all h = rw (way-beyond base none Rs [] (saves_of base Rs) n all (sym (append-nil (saves_of base Rs))) h)

-- ---- calls of `save`

-- the used bytes after a save that was accepted
pub used-after : (R : RelayRound) (S : Store) → accepted ≡ save_code R S.bytes S.used → RowsOf64 R → used_bytes (store_after R S) ≡ used_bytes S ++ save_of R
used-after R S e rows =
    let ok = savable R S.bytes S.used e in
    let D : ℕ = save_size R.round.length in
    let before : List ℕ = take S.used S.bytes in
    let rest : List ℕ = drop (S.used + D) S.bytes in
    let long : length (before ++ save_of R) ≡ S.used + D =
    length-append before (save_of R)
    ∙ ap₂ ◌+◌ (length-take-le S.used S.bytes (omega (arith, ok.room))) (save-length [] R [] rows.0 rows.1 ok.state) in
    ap₂ take (accepted-takes (save_code R S.bytes S.used) (S.used + D) S.used e)
    (accepted-takes (save_code R S.bytes S.used) (before ++ save_of R ++ rest) S.bytes e)
    ∙ take_at (before ++ save_of R) rest (S.used + D) long

pub stored_bytes : (S : Store) (Rs : List RelayRound) → NoneRefused S Rs → All RowsOf64 Rs → used_bytes (stored S Rs) ≡ saves_of (used_bytes S) Rs
unfolding stored
stored_bytes S [] ok rows = refl
stored_bytes S (R ∷ earlier) ok rows =
    used-after R (stored S earlier) ok.0 rows.0 ∙ ap (λ (l : List ℕ). l ++ save_of R) (stored_bytes S earlier ok.1 rows.1)

pub all_sound : (S : Store) (Rs : List RelayRound) → NoneRefused S Rs → All RowsOf64 Rs → All Sound Rs
all_sound S [] ok rows = tt
all_sound S (R ∷ earlier) ok rows =
    (record { rows = rows.0; state = state-first R (stored S earlier).bytes (stored S earlier).used ok.0 }, all_sound S earlier ok.1 rows.1)

-- ---- what was saved is found again

module _ (S : Store) (Rs : List RelayRound) (rows : All RowsOf64 Rs) (ok : NoneRefused S Rs) where
  there : used_bytes (stored S Rs) ≡ saves_of (used_bytes S) Rs
  there = stored_bytes S Rs ok rows

  pub chain-restored : (later : List RelayRound) (R : RelayRound) (earlier : List RelayRound) → Rs ≡ later ++ (R ∷ earlier)
      → (restore_code (used_bytes (stored S Rs)) (length later) ≡ accepted) × (restored (used_bytes (stored S Rs)) (length later) ≡ R)
  chain-restored later R earlier e =
      let same : used_bytes (stored S Rs) ≡ saves_of (used_bytes S) (later ++ (R ∷ earlier)) = there ∙ ap (saves_of (used_bytes S)) e in
      let (code, round) = chain-found (used_bytes S) later R earlier (subst (All Sound) e (all_sound S Rs ok rows)) in
      (ap (λ (l : List ℕ). restore_code l (length later)) same ∙ sym code, ap (λ (l : List ℕ). restored l (length later)) same ∙ round)

  pub chain-refused : S.used ≡ 0 → (steps : ℕ) → length Rs ≤ steps → restore_code (used_bytes (stored S Rs)) steps ≡ code 5
  chain-refused none steps h =
      ap (λ (l : List ℕ). restore_code l steps) there
      ∙ chain-beyond (used_bytes S) (ap (λ (n : ℕ). length (take n S.bytes)) none) Rs steps (all_sound S Rs ok rows) h

-- a save is found whatever stands before it
module _ (R : RelayRound) (rows : RowsOf64 R) where
  pub save-found : accepted ≡ first_of (relay_checks R) → (S : Store) → S.used + save_size R.round.length ≤ length S.bytes
      → (save_code R S.bytes S.used ≡ accepted)
      × (restore_code (used_bytes (store_after R S)) 0 ≡ accepted)
      × (restored (used_bytes (store_after R S)) 0 ≡ R)
  unfolding bad_way end_back
  save-found ok S room =
      let last : List (Bool × Code) = (not (leb (S.used + save_size R.round.length) (length S.bytes)), code 4) ∷ [] in
      let saved : save_code R S.bytes S.used ≡ accepted =
      sym (rest-decides (relay_checks R) last tt ok) ∙ rw (le-leb (S.used + save_size R.round.length) (length S.bytes) room) in
      let B : List ℕ = used_bytes (store_after R S) in
      let before : List ℕ = used_bytes S in
      let split : B ≡ before ++ (save_of R ++ []) = used-after R S (sym saved) rows ∙ ap (λ (l : List ℕ). before ++ l) (sym (append-nil (save_of R))) in
      let size : length (save_of R) ≡ save_size R.round.length = save-length [] R [] rows.0 rows.1 (passed R ok) in
      let long : length B ≡ length before + save_size R.round.length =
      ap length split ∙ length-append before (save_of R ++ []) ∙ omega (arith, length-append (save_of R) [], size) in
      let at = subst (λ (l : List ℕ). SavedAt l (length before + save_size R.round.length) R) (sym split)
      (saved-at before R [] rows.0 rows.1 (passed R ok)) in
      let here : SavedAt B (length B) R = subst (λ (n : ℕ). SavedAt B n R) (sym long) at in
      let (code, round) = restore-saved B 0 R (trailer-good B (length B) here.trailer) here ok in
      (saved, sym code, round)

  -- and nothing else is written, by a refused call nothing at all
  pub untouched : (S : Store)
      → (length (store_after R S).bytes ≡ length S.bytes)
      × (take S.used (store_after R S).bytes ≡ take S.used S.bytes)
      × (drop (store_after R S).used (store_after R S).bytes ≡ drop (store_after R S).used S.bytes)
  untouched S = go (is_accepted (save_code R S.bytes S.used)) refl
    where
      go : (t : Bool) → is_accepted (save_code R S.bytes S.used) ≡ t
          → (length (store_after R S).bytes ≡ length S.bytes)
          × (take S.used (store_after R S).bytes ≡ take S.used S.bytes)
          × (drop (store_after R S).used (store_after R S).bytes ≡ drop (store_after R S).used S.bytes)
      go true e =
          let ok : accepted ≡ save_code R S.bytes S.used = number-accepts (save_checks R S.bytes S.used) tt e in
          let n : ℕ = S.used + save_size R.round.length in
          let X : List ℕ = take S.used S.bytes in
          let rest : List ℕ = drop n S.bytes in
          let fits = savable R S.bytes S.used ok in
          let front : length X ≡ S.used = length-take-le S.used S.bytes (omega (arith, fits.room)) in
          let long : length (X ++ save_of R) ≡ n =
          length-append X (save_of R) ∙ ap₂ ◌+◌ front (save-length [] R [] rows.0 rows.1 fits.state) in
          let bytes : (store_after R S).bytes ≡ X ++ save_of R ++ rest = new-taken (save_code R S.bytes S.used) (X ++ save_of R ++ rest) S.bytes e in
          let used : (store_after R S).used ≡ n = new-taken (save_code R S.bytes S.used) n S.used e in (
            ap length bytes ∙ length-append (X ++ save_of R) rest ∙ omega (arith, long, length-drop n S.bytes, fits.room),
            ap (take S.used) (bytes ∙ append_assoc X (save_of R) rest) ∙ take_at X (save_of R ++ rest) S.used front,
            ap₂ drop used bytes ∙ drop_at (X ++ save_of R) rest n long ∙ ap (λ (m : ℕ). drop m S.bytes) (sym used),
          )
      go false e =
          let bytes : (store_after R S).bytes ≡ S.bytes = old-kept (save_code R S.bytes S.used) _ S.bytes e in
          (ap length bytes, ap (take S.used) bytes, ap (drop (store_after R S).used) bytes)
