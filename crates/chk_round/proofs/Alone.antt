-- An adaptor that alone reads its log.
use Rattle.std.proofs.Common.{◌≡◌, ◌≢◌, ℕ, zero, suc, Bool, true, false, ◌&&◌, ◌||◌, not, List, [], ◌∷◌, map, Some, ap, sym, ◌∙◌, refl, arith, true≢false, bytes_eq}
use Rattle.std.specs.Prelude.{slice_get, slice_index}
use Rattle.std.specs.List.{list_any}
use Rattle.std.proofs.lemmas.Bool.{and_parts, not-true}
use Rattle.std.proofs.lemmas.Option.{same_Some, none-some}
use Rattle.chk_seqfile.proofs.FieldLemmas.{same_bytes}
use Rattle.chk_world.specs.Checkpoints.{Line, are_apart, clash}
use Rattle.chk_agent_adaptor.specs.declared.adaptor.Phase.{Phase}
use Rattle.chk_agent_adaptor.specs.declared.adaptor.Phase.TheVariants.{Live, Past, Shrank, Stopping}
use Rattle.chk_agent_adaptor.specs.Adaptors.{Adaptor, is_past, is_stepped, line_at}
use Rattle.chk_agent.specs.Fits.{IsSound}
use Rattle.chk_agent.specs.States.{State, lines_of}
use Rattle.chk_agent.proofs.Soundness.{below_at, in_lines}
use Rattle.chk_round.specs.Following.{HasPathAlone, KeepsLogs}
use Rattle.chk_round.specs.Reading.{ReadsAlone, ReadsOn}
use Rattle.chk_round.specs.Rounds.{AllSteady}
use Rattle.chk_agent_drain.proofs.DrainingAll.{some_at}

-- ---- no two adaptors are of one stream

no_other : (x : Adaptor) (xs : List Adaptor)
    → list_any (clash (line_at 0 x)) (map (line_at 0) xs) ≡ false
    → (k : ℕ) (z : Adaptor) → slice_get xs k ≡ Some z → z.kind ≡ x.kind → z.path ≡ x.path → ⊥
no_other x [] none k z at kind path = none-some z at
no_other x (y ∷ ys) none zero z at kind path =
    let same = same_Some y z at in
    go (bytes_eq x.kind y.kind) (bytes_eq x.path y.path) _ _
    (same_bytes x.kind y.kind (sym (ap (λ (a : Adaptor). a.kind) same ∙ kind)))
    (same_bytes x.path y.path (sym (ap (λ (a : Adaptor). a.path) same ∙ path))) none
  where
    go : (p q b c : Bool) → p ≡ true → q ≡ true → (((p && q) || b) || c) ≡ false → ⊥
    go true true b c e f g = true≢false g
    go true false b c e f g = true≢false (sym f)
    go false q b c e f g = true≢false (sym e)
no_other x (y ∷ ys) none (suc k) z at kind path =
    no_other x ys (right (clash (line_at 0 x) (line_at 0 y)) _ none) k z at kind path
  where
    right : (a b : Bool) → (a || b) ≡ false → b ≡ false
    right false b e = e
    right true b e = absurd (true≢false e)

apart_two : (xs : List Adaptor) → are_apart (map (line_at 0) xs) ≡ true → (i k : ℕ) (x z : Adaptor)
    → slice_get xs i ≡ Some x → slice_get xs k ≡ Some z → z.kind ≡ x.kind → z.path ≡ x.path
    → k ≢ i → ⊥
apart_two [] apart i k x z at there kind path other = none-some x at
apart_two (y ∷ ys) apart zero zero x z at there kind path other = other refl
apart_two (y ∷ ys) apart zero (suc k) x z at there kind path other =
    let p = and_parts (not (list_any (clash (line_at 0 y)) (map (line_at 0) ys))) _ apart in
    let same = same_Some y x at in
    no_other y ys (not-true (list_any (clash (line_at 0 y)) (map (line_at 0) ys)) p.0) k z there
    (kind ∙ ap (λ (a : Adaptor). a.kind) (sym same)) (path ∙ ap (λ (a : Adaptor). a.path) (sym same))
apart_two (y ∷ ys) apart (suc i) zero x z at there kind path other =
    let p = and_parts (not (list_any (clash (line_at 0 y)) (map (line_at 0) ys))) _ apart in
    let same = same_Some y z there in
    no_other y ys (not-true (list_any (clash (line_at 0 y)) (map (line_at 0) ys)) p.0) i x at
    (sym kind ∙ ap (λ (a : Adaptor). a.kind) (sym same))
    (sym path ∙ ap (λ (a : Adaptor). a.path) (sym same))
apart_two (y ∷ ys) apart (suc i) (suc k) x z at there kind path other =
    let p = and_parts (not (list_any (clash (line_at 0 y)) (map (line_at 0) ys))) _ apart in
    apart_two ys p.1 i k x z at there kind path (λ e. other (ap suc e))

-- ---- by the lines behind a round

lives_now : (p : Phase) → is_stepped p ≡ true → is_past p ≡ false
lives_now Live e = refl
lives_now (Stopping end) e = refl
lives_now Shrank e = refl
lives_now Past e = absurd (true≢false (sym e))

-- Where no other live line has the path of this adaptor's line, no other adaptor that was to be read
-- reads its log.
pub alone_before : (a a1 b : State) → AllSteady a → ReadsOn a a1 → IsSound a1 → KeepsLogs a b
    → (l : Line) (i : ℕ) (x : Adaptor) → slice_get a.adaptors i ≡ Some x
    → x.kind ≡ l.kind → x.path ≡ l.path → HasPathAlone l (lines_of b) → ReadsAlone i x a
alone_before a a1 b steady on sound keeps l i x at kind path alone k z other there steps same =
    let live = steady k z there (lives_now z.phase steps) in
    let f = (keeps z.kind z.path).0 (record {
      place = k;
      adaptor = z;
      at = there;
      kind_is = refl;
      path_is = refl;
      live = live;
    }) in
    let its = alone (line_at (slice_index b.delivery.table.committed f.place) f.adaptor)
    (in_lines b.adaptors b.delivery.table.committed f.place f.adaptor f.at)
    (ap (λ p. not (is_past p)) f.live) (f.path_is ∙ (same ∙ path)) in
    let size = on.size in
    let below = below_at a.adaptors i x at in
    let below2 = below_at a.adaptors k z there in
    let y = some_at a1.adaptors i (omega (arith, below, size)) in
    let w = some_at a1.adaptors k (omega (arith, below2, size)) in
    let first = on.streams i x y.0 at y.1 in
    let second = on.streams k z w.0 there w.1 in
    apart_two a1.adaptors sound.apart i k y.0 w.0 y.1 w.1
    (second.0 ∙ (sym f.kind_is ∙ (its ∙ (sym kind ∙ sym first.0))))
    (second.1 ∙ (same ∙ sym first.1)) other
