-- The whole lines of a control message are passed one after another.
use Rattle.std.proofs.Common.{◌≡◌, ℕ, ◌+◌, ◌-◌, ◌≤◌, Bool, true, false, ◌||◌, List, [], ◌∷◌, ◌++◌, Some, None, length, take, drop, refl, ap, sym, ◌∙◌, subst, append_assoc, arith, if◌then◌else◌}
use Rattle.std.specs.Prelude.{IsTrue, ◌==◌, position}
use Rattle.std.specs.List.{list_any}
use Rattle.std.proofs.lemmas.List.{length-take, length-append}
use Rattle.std.proofs.Math.Seq.{drop-append_seam, take-append-add}
use Rattle.chk_bytes.specs.Words.{parts_at, onto_first, lacks}
use Rattle.chk_bytes.proofs.PartLemmas.{parts_at-whole, parts_at-front, split_found, split_none}
use Rattle.chk_control.specs.Lines.{meaning_of}
use Rattle.chk_agent_run.specs.Closing.{closes, but_last, is_closed_by, capped, IsPassed}
use Rattle.chk_agent_run.proofs.LineLemmas.{found_within}

-- there is a first part
record Begins (lines : List (List ℕ)) : Type 0 where
  first : List ℕ
  others : List (List ℕ)
  is : lines ≡ first ∷ others

onto_begins : (b : ℕ) (lines : List (List ℕ)) → Begins (onto_first b lines)
onto_begins b [] = record { first = b ∷ []; others = []; is = refl }
onto_begins b (line ∷ lines) = record { first = b ∷ line; others = lines; is = refl }

parts_begin : (text : List ℕ) → Begins (parts_at 10 text)
parts_begin [] = record { first = []; others = []; is = refl }
parts_begin (b ∷ text) = go (b == 10)
  where
    go : (t : Bool) → Begins (if t then [] ∷ parts_at 10 text else onto_first b (parts_at 10 text))
    go true = record { first = []; others = parts_at 10 text; is = refl }
    go false = onto_begins b (parts_at 10 text)

but_last_on : (line : List ℕ) (lines : List (List ℕ)) → Begins lines → but_last (line ∷ lines) ≡ line ∷ but_last lines
but_last_on line lines begins =
    ap (λ (ls : List (List ℕ)). but_last (line ∷ ls)) begins.is ∙ ap (λ (ls : List (List ℕ)). line ∷ but_last ls) (sym begins.is)

-- a whole line, and what follows
closed_on : (line more : List ℕ) → IsTrue (lacks 10 line)
    → is_closed_by (line ++ 10 ∷ more) ≡ (closes (meaning_of line) || is_closed_by more)
closed_on line more plain =
    ap (λ (ls : List (List ℕ)). list_any (λ l. closes (meaning_of l)) (but_last ls)) (parts_at-front 10 line more plain)
    ∙ ap (λ (ls : List (List ℕ)). list_any (λ l. closes (meaning_of l)) ls) (but_last_on line (parts_at 10 more) (parts_begin more))

pub passed_none : (bytes : List ℕ) → IsPassed 0 bytes
passed_none bytes = record { front = []; tail = bytes; whole = refl; place = refl; none = λ more. refl }

-- what stands behind the passed lines
behind_is : (at : ℕ) (bytes : List ℕ) (p : IsPassed at bytes) → drop at bytes ≡ p.tail
behind_is at bytes p =
    ap (drop at) p.whole ∙ (ap (λ (k : ℕ). drop k (p.front ++ p.tail)) (sym p.place) ∙ drop-append_seam p.front p.tail)

rests_on : (at : ℕ) (bytes : List ℕ) (p : IsPassed at bytes) → is_closed_by bytes ≡ is_closed_by (drop at bytes)
rests_on at bytes p = ap is_closed_by p.whole ∙ (p.none p.tail ∙ ap is_closed_by (sym (behind_is at bytes p)))

module _ (at : ℕ) (bytes : List ℕ) (p : IsPassed at bytes) where
  pub none_closes : position (λ b. b == 10) (drop at bytes) ≡ None → is_closed_by bytes ≡ false
  none_closes none =
      rests_on at bytes p
      ∙ ap (λ (ls : List (List ℕ)). list_any (λ l. closes (meaning_of l)) (but_last ls))
      (parts_at-whole 10 (drop at bytes) (split_none 10 (drop at bytes) none))

  module _ (size : ℕ) (found : position (λ b. b == 10) (drop at bytes) ≡ Some size) where
    abbrev Line : List ℕ
    Line = take size (drop at bytes)

    abbrev Behind : List ℕ
    Behind = drop (size + 1) (drop at bytes)

    split : drop at bytes ≡ Line ++ 10 ∷ Behind
    split = (split_found 10 size (drop at bytes) found).whole

    plain : IsTrue (lacks 10 Line)
    plain = (split_found 10 size (drop at bytes) found).front_lacks

    pub line_closes : closes (meaning_of Line) ≡ true → is_closed_by bytes ≡ true
    line_closes ends =
        rests_on at bytes p
        ∙ (ap is_closed_by split ∙ (closed_on Line Behind plain ∙ ap (λ (b : Bool). b || is_closed_by Behind) ends))

    pub passed_line : closes (meaning_of Line) ≡ false → IsPassed (at + (size + 1)) bytes
    passed_line goes = record {
      front = p.front ++ (Line ++ 10 ∷ []);
      tail = Behind;
      whole = p.whole
          ∙ (ap (λ (t : List ℕ). p.front ++ t) (sym (behind_is at bytes p) ∙ split)
          ∙ (ap (λ (t : List ℕ). p.front ++ t) (sym (append_assoc Line (10 ∷ []) Behind))
          ∙ sym (append_assoc p.front (Line ++ 10 ∷ []) Behind)));
      place =
          let a = length-append p.front (Line ++ 10 ∷ []) in
          let b = length-append Line (10 ∷ []) in
          let c = length-take size (drop at bytes) in
          let d = found_within (drop at bytes) size found in
          let e = p.place in
          omega (arith, a, b, c, d, e);
      none = λ more.
          ap is_closed_by (append_assoc p.front (Line ++ 10 ∷ []) more)
          ∙ (p.none ((Line ++ 10 ∷ []) ++ more)
          ∙ (ap is_closed_by (append_assoc Line (10 ∷ []) more)
          ∙ (closed_on Line more plain ∙ ap (λ (b : Bool). b || is_closed_by more) goes)));
    }

-- a piece more
pub passed_more : (at : ℕ) (bytes piece : List ℕ) → IsPassed at bytes → length bytes ≤ 65536 → IsPassed at (capped (bytes ++ piece))
passed_more at bytes piece p short =
    let a = length-append p.front p.tail in
    let b = ap length p.whole in
    let room : length p.front + (65536 - length p.front) ≡ 65536 = omega (arith, a, b) in
    record {
      front = p.front;
      tail = take (65536 - length p.front) (p.tail ++ piece);
      whole = ap (λ (t : List ℕ). capped (t ++ piece)) p.whole
          ∙ (ap capped (append_assoc p.front p.tail piece)
          ∙ (ap (λ (k : ℕ). take k (p.front ++ (p.tail ++ piece))) (sym room)
          ∙ take-append-add p.front (p.tail ++ piece) (65536 - length p.front)));
      place = p.place;
      none = p.none;
    }
