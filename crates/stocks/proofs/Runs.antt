-- Lists of draws, each on the stock that the one before it handed back: what they keep, and what they add up to.
use Prim.Native.Nat.{ℕ, ◌+◌, ◌-◌, ◌≤◌, ◌<◌}
use mathlib.Core.Path.{◌≡◌, refl, sym, ap, ◌∙◌, subst}
use mathlib.Core.Bool.{Bool, true, false, cond}
use mathlib.Core.List.{List, [], ◌∷◌, ◌++◌}
use native.Mathlib.Omega.{arith}
use lib.Dec.{T, eqb}
use lib.ListN.{length}
use Rattle.refusals.specs.declared.Code.{Code}
use Rattle.refusals.specs.Codes.{is_accepted, if_accepted}
use Rattle.lists.specs.Lists.{at, tab}
use Rattle.lists.specs.Sums.{sum_to}
use Rattle.lists.proofs.ListLaws.{length-tab, el-zeros}
use Rattle.lists.proofs.Sums.{sum-cong, sum-zero}
use Rattle.streams.specs.Streams.{draw_code, drawn, position_after_all, symbols_drawn, places_drawn}
use Rattle.streams.proofs.StreamLaws.{draws-give, draws-consecutive, draws-counted, draws-placed, draws-disjoint}
use Rattle.stocks.specs.declared.Stock.{Stock}
use Rattle.stocks.specs.Stocks.{max_pools, drawn_of, position, opened, Draw, with_drawn, stock_code}
use Rattle.stocks.specs.Stocks.{run_of, answered, symbols_given, places_given, of_pool, added_up}
use Rattle.stocks.proofs.StockLaws.{Good, Passed, taken, stream-draws, grown-at, grown-position, grown-good}

module _ (stream : List ℕ) where
  -- is this draw answered?
  abbrev pub takes : Stock → Draw → Bool
  takes S d = is_accepted (stock_code stream S d)

  -- the stock after an answered draw
  abbrev pub next : Stock → Draw → Stock
  next S d = with_drawn S d.pool d.length

  -- and after a draw that is answered or not
  abbrev next_if : Bool → Stock → Draw → Stock
  next_if b S d = cond b (next S d) S

  moves : (S : Stock) (d : Draw) → Passed stream S d → position (next S d) ≡ position S + d.length
  moves S d p = grown-position S d.pool d.length p.from p.to p.state.few

  -- what answered draws keep
  pub run-keeps : (P : Stock → Type 0) → ((S : Stock) (d : Draw) → P S → Passed stream S d → P (next S d)) → (S : Stock) (draws : List Draw) → P S
      → P (run_of stream S draws)
  unfolding run_of
  run-keeps P step S [] h = h
  run-keeps P step S (d ∷ draws) h = go (takes S d) (taken stream S d) (λ S'. run-keeps P step S' draws)
    where
      go : (b : Bool) → (T b → Passed stream S d) → ((S' : Stock) → P S' → P (run_of stream S' draws)) → P (run_of stream (next_if b S d) draws)
      go true p later = later (next S d) (step S d h (p tt))
      go false p later = later S h

  pub run-good : (S : Stock) (draws : List Draw) → Good (length stream) S → Good (length stream) (run_of stream S draws)
  run-good = run-keeps (Good (length stream)) (λ S d g p. grown-good stream S d p)

  pub run-pools : (S : Stock) (draws : List Draw) → (run_of stream S draws).pools ≡ S.pools
  run-pools S draws = run-keeps (λ R. R.pools ≡ S.pools) (λ R d e p. e) S draws refl

  pub run-reserves : (S : Stock) (draws : List Draw) → (run_of stream S draws).reserves ≡ S.reserves
  run-reserves S draws = run-keeps (λ R. R.reserves ≡ S.reserves) (λ R d e p. e) S draws refl

  pub run-append : (S : Stock) (a b : List Draw) → run_of stream S (a ++ b) ≡ run_of stream (run_of stream S a) b
  unfolding run_of
  run-append S [] b = refl
  run-append S (d ∷ a) b = run-append (next_if (takes S d) S d) a b

  -- ---- what they add up to

  -- those that are answered, where the first of them is or is not
  abbrev more : Bool → Stock → Draw → List Draw → List Draw
  more b S d draws = cond b (d ∷ []) [] ++ answered stream (next_if b S d) draws

  grows : (b : Bool) (d : Draw) (l : List Draw) → added_up (cond b (d ∷ l) l) ≡ cond b d.length 0 + added_up l
  unfolding added_up
  grows true d l = refl
  grows false d l = omega arith

  pub run-drawn : (S : Stock) (draws : List Draw) (i : ℕ) → i < max_pools
      → drawn_of (run_of stream S draws) i ≡ drawn_of S i + added_up (of_pool (i + 1) (answered stream S draws))
  unfolding run_of answered of_pool added_up
  run-drawn S [] i h = omega arith
  run-drawn S (d ∷ draws) i h = go (takes S d) (λ S'. run-drawn S' draws i h)
    where
      go : (b : Bool)
          → ((S' : Stock) → drawn_of (run_of stream S' draws) i ≡ drawn_of S' i + added_up (of_pool (i + 1) (answered stream S' draws)))
          → drawn_of (run_of stream (next_if b S d) draws) i ≡ drawn_of S i + added_up (of_pool (i + 1) (more b S d draws))
      go true later =
          omega (
            arith,
            later (next S d),
            grown-at S d.pool d.length i h,
            grows (eqb (i + 1) d.pool) d (of_pool (i + 1) (answered stream (next S d) draws)),
          )
      go false later = later S

  pub run-position : (S : Stock) (draws : List Draw) → position (run_of stream S draws) ≡ position S + added_up (answered stream S draws)
  unfolding run_of answered added_up
  run-position S [] = omega arith
  run-position S (d ∷ draws) = go (takes S d) (taken stream S d) (λ S'. run-position S' draws)
    where
      go : (b : Bool) → (T b → Passed stream S d)
          → ((S' : Stock) → position (run_of stream S' draws) ≡ position S' + added_up (answered stream S' draws))
          → position (run_of stream (next_if b S d) draws) ≡ position S + added_up (more b S d draws)
      go true p later = omega (arith, later (next S d), moves S d (p tt))
      go false p later = later S

  -- ---- the answered draws are draws on the stream, one after the other

  abbrev pub on_stream : List Draw → List (ℕ × List ℕ)
  on_stream [] = []
  on_stream (d ∷ draws) = (d.length, d.out) ∷ on_stream draws

  pub run-moves : (S : Stock) (draws : List Draw) → position_after_all stream (position S) (on_stream (answered stream S draws)) ≡ position (run_of stream S draws)
  unfolding run_of answered
  run-moves S [] = refl
  run-moves S (d ∷ draws) = go (takes S d) (taken stream S d) (λ S'. run-moves S' draws)
    where
      rest : List (ℕ × List ℕ)
      rest = on_stream (answered stream (next S d) draws)

      go : (b : Bool) → (T b → Passed stream S d)
          → ((S' : Stock) → position_after_all stream (position S') (on_stream (answered stream S' draws)) ≡ position (run_of stream S' draws))
          → position_after_all stream (position S) (on_stream (more b S d draws)) ≡ position (run_of stream (next_if b S d) draws)
      go true p later =
          ap (λ (c : Code). position_after_all stream (if_accepted c (position S + d.length) (position S)) rest) (sym (stream-draws stream S d (p tt)))
          ∙ ap (λ (n : ℕ). position_after_all stream n rest) (sym (moves S d (p tt)))
          ∙ later (next S d)
      go false p later = later S

  -- a list to which each answered draw adds a part f: of the stock's draws, and of the stream's
  module _ (S : Stock) (d : Draw) (f : ℕ → ℕ → List ℕ) (of_stock : Stock → List ℕ) (of_stream : ℕ → List ℕ) where
    part-more : Passed stream S d → of_stock (next S d) ≡ of_stream (position (next S d))
        → f (position S) d.length ++ of_stock (next S d)
        ≡ (let c = draw_code stream (position S) d.length d.out in
        if_accepted c (f (position S) d.length) [] ++ of_stream (if_accepted c (position S + d.length) (position S)))
    part-more p later =
        let here : List ℕ = f (position S) d.length in
        ap (λ (l : List ℕ). here ++ l) (later ∙ ap of_stream (moves S d p))
        ∙ ap (λ (c : Code). if_accepted c here [] ++ of_stream (if_accepted c (position S + d.length) (position S))) (stream-draws stream S d p)

  pub run-symbols : (S : Stock) (draws : List Draw) → symbols_given stream S draws ≡ symbols_drawn stream (position S) (on_stream (answered stream S draws))
  unfolding run_of answered symbols_given
  run-symbols S [] = refl
  run-symbols S (d ∷ draws) = go (takes S d) (taken stream S d) (λ S'. run-symbols S' draws)
    where
      go : (b : Bool) → (T b → Passed stream S d)
          → ((S' : Stock) → symbols_given stream S' draws ≡ symbols_drawn stream (position S') (on_stream (answered stream S' draws)))
          → cond b (cond b (drawn stream (position S) d.length) d.out) [] ++ symbols_given stream (next_if b S d) draws
          ≡ symbols_drawn stream (position S) (on_stream (more b S d draws))
      go true p later =
          part-more S d (drawn stream) (λ R. symbols_given stream R draws) (λ n. symbols_drawn stream n (on_stream (answered stream (next S d) draws)))
          (p tt) (later (next S d))
      go false p later = later S

  pub run-places : (S : Stock) (draws : List Draw) → places_given stream S draws ≡ places_drawn stream (position S) (on_stream (answered stream S draws))
  unfolding run_of answered places_given
  run-places S [] = refl
  run-places S (d ∷ draws) = go (takes S d) (taken stream S d) (λ S'. run-places S' draws)
    where
      go : (b : Bool) → (T b → Passed stream S d)
          → ((S' : Stock) → places_given stream S' draws ≡ places_drawn stream (position S') (on_stream (answered stream S' draws)))
          → cond b (tab d.length (λ k. position S + k)) [] ++ places_given stream (next_if b S d) draws
          ≡ places_drawn stream (position S) (on_stream (more b S d draws))
      go true p later =
          part-more S d (λ n L. tab L (λ k. n + k)) (λ R. places_given stream R draws)
          (λ n. places_drawn stream n (on_stream (answered stream (next S d) draws))) (p tt) (later (next S d))
      go false p later = later S

  -- so they take consecutive places, and each symbol that they write is the stream's at its place
  module _ (S : Stock) (draws : List Draw) where
    abbrev asked : List (ℕ × List ℕ)
    asked = on_stream (answered stream S draws)

    abbrev places : List ℕ
    places = places_given stream S draws

    abbrev symbols : List ℕ
    symbols = symbols_given stream S draws

    abbrev moved : ℕ
    moved = position (run_of stream S draws) - position S

    consecutive : places ≡ tab moved (λ k. position S + k)
    consecutive =
        run-places S draws
        ∙ draws-consecutive stream (position S) asked
        ∙ ap (λ (n : ℕ). tab (n - position S) (λ k. position S + k)) (run-moves S draws)

    count : moved ≡ length places
    count = sym (ap length consecutive ∙ length-tab moved (λ k. position S + k))

    pub given-moved : position (run_of stream S draws) ≡ position S + length places
    given-moved = omega (arith, run-position S draws, count)

    pub given-consecutive : places ≡ tab (length places) (λ k. position S + k)
    given-consecutive = consecutive ∙ ap (λ (n : ℕ). tab n (λ k. position S + k)) count

    pub given-symbols : symbols ≡ drawn stream (position S) (length places)
    given-symbols =
        run-symbols S draws
        ∙ draws-give stream (position S) asked
        ∙ ap (λ (n : ℕ). drawn stream (position S) (n - position S)) (run-moves S draws)
        ∙ ap (drawn stream (position S)) count

    pub given_counted : length symbols ≡ length places
    given_counted = ap length (run-symbols S draws) ∙ draws-counted stream (position S) asked ∙ sym (ap length (run-places S draws))

    inside : (k : ℕ) → k < length places → k < length (places_drawn stream (position S) asked)
    inside k h = subst (λ (l : List ℕ). k < length l) (run-places S draws) h

    pub given-placed : (k : ℕ) → k < length places → at symbols k ≡ at stream (at places k)
    given-placed k h =
        ap (λ (l : List ℕ). at l k) (run-symbols S draws)
        ∙ draws-placed stream (position S) asked k (inside k h)
        ∙ ap (λ (l : List ℕ). at stream (at l k)) (sym (run-places S draws))

    pub given-once : (i j : ℕ) → i < length places → j < length places → at places i ≡ at places j → i ≡ j
    given-once i j h l e =
        let same = run-places S draws in
        draws-disjoint stream (position S) asked i j (inside i h) (inside j l)
        (ap (λ (p : List ℕ). at p i) (sym same) ∙ e ∙ ap (λ (p : List ℕ). at p j) same)

-- ---- from an opening

module _ (stream : List ℕ) (pools : ℕ) (reserves limits : List ℕ) (few : pools ≤ max_pools) where
  abbrev start : Stock
  start = opened pools reserves limits

  pub from_zero : position start ≡ 0
  from_zero = sum-zero pools (drawn_of start) (λ i h. el-zeros max_pools i)

  module _ (draws : List Draw) where
    abbrev all : List Draw
    all = answered stream start draws

    abbrev end : Stock
    end = run_of stream start draws

    pub added-each : (i : ℕ) → i < pools → drawn_of end i ≡ added_up (of_pool (i + 1) all)
    added-each i h = omega (arith, run-drawn stream start draws i (omega arith), el-zeros max_pools i)

    pub added-pools : position end ≡ sum_to pools (λ i. added_up (of_pool (i + 1) all))
    added-pools =
        ap (λ (n : ℕ). sum_to n (drawn_of end)) (run-pools stream start draws)
        ∙ sum-cong pools (drawn_of end) (λ i. added_up (of_pool (i + 1) all)) added-each

    pub added-all : position end ≡ added_up all
    added-all = omega (arith, run-position stream start draws, from_zero)
