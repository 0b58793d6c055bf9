-- The adaptors of lines that may stand in one checkpoint, put into the tables one after the other.
use Rattle.std.proofs.Common.{◌≡◌, ℕ, ◌+◌, ◌<◌, Bool, true, false, ◌&&◌, ◌||◌, not, cond, List, []}
use Rattle.std.proofs.Common.{◌∷◌, ◌++◌, length, map, bytes_eq, Some, None, refl, ap, sym, subst}
use Rattle.std.proofs.Common.{◌∙◌, true≢false, arith, append_assoc, append-nil, if◌then◌else◌}
use Rattle.std.specs.Prelude.{IsTrue, position}
use Rattle.std.specs.List.{list_any, position_from}
use Rattle.std.proofs.lemmas.Bool.{and_parts, or_parts}
use Rattle.std.proofs.lemmas.List.{map-append, length-append, length-map}
use Rattle.std.proofs.lemmas.Iterator.Adapters.{position_from-zero}
use Rattle.chk_checkpoint.specs.declared.CheckLine.{CheckLine}
use Rattle.chk_checkpoint.specs.Lines.{shown}
use Rattle.chk_world.specs.Checkpoints.{Line, Two, are_apart, are_lines, clash, same_log}
use Rattle.chk_agent_adaptor.specs.declared.adaptor.Phase.TheVariants.{Live, Past}
use Rattle.chk_agent_adaptor.specs.Adaptors.{Adaptor, adaptor_of, is_past}
use Rattle.chk_agent_table.specs.Adaptors.{is_named, is_of}
use Rattle.chk_agent.proofs.StartingSound.{are_good}
use Rattle.chk_control.proofs.SpelledLemmas.{false_from_not as not-true}

-- what none of some is, the one among them isn't
any_at : {X : Type 0} (p : X → Bool) (xs : List X) (y : X) (ys : List X)
    → list_any p (xs ++ y ∷ ys) ≡ false → p y ≡ false
any_at p [] y ys none = (or_parts (p y) (list_any p ys) none).0
any_at p (x ∷ xs) y ys none = any_at p xs y ys (or_parts (p x) (list_any p (xs ++ y ∷ ys)) none).1

-- an earlier line isn't of the stream, nor live under the name of a live one
named_apart : (s m l same : Bool) → (s || (m && (l && same))) ≡ false → l ≡ true
    → (not (is_past (if m then Live else Past)) && same) ≡ false
named_apart true m l same e live = absurd (true≢false e)
named_apart false false l same e live = refl
named_apart false true l same e live = sym (ap (λ b. b && same) live) ∙ e

module _ (l : Line) (rest : List Line) where
  stream_from : (i : ℕ) (done : List Line) → are_apart (done ++ l ∷ rest) ≡ true
      → position_from (is_of l.kind l.path) i (map adaptor_of done) ≡ None
  stream_from i [] apart = refl
  stream_from i (m ∷ done) apart =
      let p = and_parts (not (list_any (clash m) (done ++ l ∷ rest))) _ apart in
      let c = any_at (clash m) done l rest (not-true (list_any (clash m) (done ++ l ∷ rest)) p.0) in
      ap (λ b. cond b (Some i) (position_from (is_of l.kind l.path) (i + 1) (map adaptor_of done)))
      (or_parts (same_log m l) _ c).0
      ∙ stream_from (i + 1) done p.1

  name_from : l.live ≡ true → (i : ℕ) (done : List Line) → are_apart (done ++ l ∷ rest) ≡ true
      → position_from (is_named l.name) i (map adaptor_of done) ≡ None
  name_from live i [] apart = refl
  name_from live i (m ∷ done) apart =
      let p = and_parts (not (list_any (clash m) (done ++ l ∷ rest))) _ apart in
      let c = any_at (clash m) done l rest (not-true (list_any (clash m) (done ++ l ∷ rest)) p.0) in
      ap (λ b. cond b (Some i) (position_from (is_named l.name) (i + 1) (map adaptor_of done)))
      (named_apart (same_log m l) m.live l.live (bytes_eq m.name l.name) c live)
      ∙ name_from live (i + 1) done p.1

-- the lines that were taken, and what their adaptors are
pub record AreTaken (lines left : List CheckLine) (made : List Adaptor) : Type 0 where
  pub done : List Line
  pub all : map shown lines ≡ done ++ map shown left
  pub made_are : made ≡ map adaptor_of done

live_line : (live : Bool) → is_past (if live then Live else Past) ≡ false → live ≡ true
live_line true e = refl
live_line false e = absurd (true≢false e)

-- the adaptor of the next line can be put behind them
pub record IsNext (made : List Adaptor) (a : Adaptor) : Type 0 where
  pub few : length made < 10000
  pub stream : position (is_of a.kind a.path) made ≡ None
  pub name : is_past a.phase ≡ false → position (is_named a.name) made ≡ None

module _ (lines before after : List CheckLine) (l : CheckLine) (made : List Adaptor)
    (is : before ≡ l ∷ after) (t : AreTaken lines before made) where
  all_are : map shown lines ≡ t.done ++ shown l ∷ map shown after
  all_are = t.all ∙ ap (λ ls. t.done ++ map shown ls) is

  next_of : IsTrue (are_lines Two (map shown lines)) → IsNext made (adaptor_of (shown l))
  next_of good =
      let g = are_good (map shown lines) good in
      let apart : are_apart (t.done ++ shown l ∷ map shown after) ≡ true
      = sym (ap are_apart all_are) ∙ g.apart in
      let many = ap length all_are ∙ length-append t.done (shown l ∷ map shown after) in
      let size = ap length t.made_are ∙ length-map t.done adaptor_of in
      let few = g.few in
      record {
        few = omega (arith, few, many, size);
        stream =
            ap (position (is_of (shown l).kind (shown l).path)) t.made_are
            ∙ position_from-zero (is_of (shown l).kind (shown l).path) (map adaptor_of t.done)
            ∙ stream_from (shown l) (map shown after) 0 t.done apart;
        name = λ live.
            ap (position (is_named (shown l).name)) t.made_are
            ∙ position_from-zero (is_named (shown l).name) (map adaptor_of t.done)
            ∙ name_from (shown l) (map shown after) (live_line (shown l).live live) 0 t.done apart;
      }

  pub next_is : IsTrue (are_lines Two (map shown lines)) → (a : Adaptor) → a ≡ adaptor_of (shown l)
      → IsNext made a
  next_is good a same = subst (IsNext made) (sym same) (next_of good)

  pub taken_more : (a : Adaptor) → a ≡ adaptor_of (shown l) → (now : List Adaptor)
      → now ≡ made ++ a ∷ [] → AreTaken lines after now
  taken_more a same now pushed = record {
    done = t.done ++ shown l ∷ [];
    all = all_are ∙ sym (append_assoc t.done (shown l ∷ []) (map shown after));
    made_are =
        pushed ∙ ap (λ b. made ++ b ∷ []) same
        ∙ ap (λ xs. xs ++ adaptor_of (shown l) ∷ []) t.made_are
        ∙ sym (map-append adaptor_of t.done (shown l ∷ []));
  }

pub none_taken : (lines : List CheckLine) (made : List Adaptor) → made ≡ []
    → AreTaken lines lines made
none_taken lines made none = record { done = []; all = refl; made_are = none }

pub all_taken : (lines : List CheckLine) (left : List CheckLine) (made : List Adaptor) → left ≡ []
    → AreTaken lines left made → made ≡ map adaptor_of (map shown lines)
all_taken lines left made none t =
    let all = t.all ∙ ap (λ ls. t.done ++ map shown ls) none in
    t.made_are ∙ ap (map adaptor_of) (sym (all ∙ append-nil t.done))
