-- Fronts of a checkpoint: which line follows, and where the first one stands that may not.
use Rattle.std.proofs.Common.{◌≡◌, ◌⊎◌, inl, inr, ℕ, ◌+◌, ◌-◌, ◌<◌, ◌≤◌, true, List, [], ◌∷◌, ◌++◌, Option, Some, None, length, take, drop, map, refl, ap, sym, subst, ◌∙◌, get_or, arith, append_assoc, append-nil, length-append, length-take}
use Rattle.std.specs.Prelude.{IsTrue}
use Rattle.std.specs.List.{list_all}
use Rattle.std.proofs.lemmas.Bool.{and_parts, cases_lt}
use Rattle.std.proofs.Math.Seq.{take-append-add, take-append_seam}
use Rattle.chk_bytes.specs.Words.{BeginsWith}
use Rattle.std.proofs.lemmas.Option.{same_Some}
use Rattle.std.proofs.lemmas.List.{take-append-drop, take_all}
use Rattle.chk_bytes.specs.Words.{lacks, parts_at, joined}
use Rattle.chk_bytes.proofs.PartLemmas.{same_split}
use Rattle.chk_world.specs.Checkpoints.{Line, Version as Text, One, Two, version_text, line_words, line_text, checkpoint_text, is_line, fits_version, are_lines, guessed_line, read_checkpoint}
use Rattle.chk_world.proofs.CheckpointsRead.{line_facts, line_back, joined_lacks, words_lack}
use Rattle.chk_world.proofs.SpelledLemmas.{checkpoint_so}
use Rattle.chk_checkpoint.specs.Lines.{first_line}
use Rattle.chk_checkpoint.specs.Damage.{SpellsLines, IsFirstBad}
use Rattle.chk_checkpoint.proofs.LineLemmas.{words_back}
use Rattle.chk_checkpoint.proofs.SeenLemmas.{lines_parts, front_lines, last_line}
use Rattle.chk_checkpoint.specs.Seen.{body, MayStand, NoLine}

pub body_lacks : (v : Text) (l : Line) → is_line l ≡ true → IsTrue (lacks 10 (body v l))
body_lacks v l h = joined_lacks 10 32 (line_words v l) refl (words_lack 10 v l (omega arith) (line_facts l h))

pub one_line : (v : Text) (a b : Line) → is_line a ≡ true → is_line b ≡ true → fits_version v a ≡ true → fits_version v b ≡ true
    → body v a ≡ body v b → a ≡ b
one_line v a b ha hb fa fb e =
    same_Some a b
    (sym (line_back v a fa (line_facts a ha))
    ∙ (ap guessed_line (sym (words_back v a ha) ∙ (ap (parts_at 32) e ∙ words_back v b hb)) ∙ line_back v b fb (line_facts b hb)))

no_end : (front rest : List ℕ) → front ++ 10 ∷ rest ≡ [] → ⊥
no_end [] rest e = absurd (cc)
no_end (b ∷ front) rest e = absurd (cc)

-- the lines go on, and the rest is those that follow
pub record Longer (v : Text) (lines ls : List Line) (k : List ℕ) : Type 0 where
  pub more : List Line
  pub lines_are : ls ≡ lines ++ more
  pub rest_is : k ≡ joined (map (line_text v) more)

abbrev text_of_lines : Text → List Line → List ℕ
text_of_lines v lines = joined (map (line_text v) lines)

-- a first line's text, with its newline apart
opened : (v : Text) (a : Line) (lines : List Line) (k : List ℕ)
    → text_of_lines v (a ∷ lines) ++ k ≡ body v a ++ 10 ∷ (text_of_lines v lines ++ k)
opened v a lines k =
    append_assoc (line_text v a) (text_of_lines v lines) k
    ∙ append_assoc (body v a) (10 ∷ []) (text_of_lines v lines ++ k)

longer : (v : Text) (lines ls : List Line) (k : List ℕ) → list_all is_line lines ≡ true → list_all (fits_version v) lines ≡ true
    → list_all is_line ls ≡ true → list_all (fits_version v) ls ≡ true → text_of_lines v lines ++ k ≡ text_of_lines v ls → Longer v lines ls k
longer v [] ls k a b c d e = record { more = ls; lines_are = refl; rest_is = e }
longer v (x ∷ lines) [] k a b c d e = absurd (no_end (body v x) (text_of_lines v lines ++ k) (sym (opened v x lines k) ∙ e))
longer v (x ∷ lines) (y ∷ ls) k a b c d e =
    let p = and_parts (is_line x) (list_all is_line lines) a in
    let q = and_parts (fits_version v x) (list_all (fits_version v) lines) b in
    let r = and_parts (is_line y) (list_all is_line ls) c in
    let s = and_parts (fits_version v y) (list_all (fits_version v) ls) d in
    let split = same_split 10 (body v x) (text_of_lines v lines ++ k) (body v y) (text_of_lines v ls) (body_lacks v x p.0) (body_lacks v y r.0)
    (sym (opened v x lines k) ∙ (e ∙ append_assoc (body v y) (10 ∷ []) (text_of_lines v ls))) in
    let same = one_line v x y p.0 r.0 q.0 s.0 split.0 in
    let rest = longer v lines ls k p.1 q.1 r.1 s.1 split.1 in
    record {
      more = rest.more;
      lines_are = ap (λ l. l ∷ ls) (sym same) ∙ ap (λ xs. x ∷ xs) rest.lines_are;
      rest_is = rest.rest_is;
    }

apart_versions : (a b : ℕ) → a ≡ 49 → b ≡ 50 → a ≡ b → ⊥
apart_versions a b is_one is_two e = omega (arith, is_one, is_two, e)

pub longer_text : (v w : Text) (lines ls : List Line) (k : List ℕ) → IsTrue (are_lines v lines) → IsTrue (are_lines w ls)
    → checkpoint_text v lines ++ k ≡ checkpoint_text w ls → (v ≡ w) × Longer v lines ls k
longer_text One Two lines ls k h g e = absurd (apart_versions 49 50 refl refl (ap (λ xs. get_or xs 18 0) e))
longer_text Two One lines ls k h g e = absurd (apart_versions 49 50 refl refl (sym (ap (λ xs. get_or xs 18 0) e)))
longer_text One One lines ls k h g e =
    let p = lines_parts One lines h in
    let q = lines_parts One ls g in
    (refl, longer One lines ls k p.lines_are p.fit q.lines_are q.fit (ap (drop 20) e))
longer_text Two Two lines ls k h g e =
    let p = lines_parts Two lines h in
    let q = lines_parts Two ls g in
    (refl, longer Two lines ls k p.lines_are p.fit q.lines_are q.fit (ap (drop 20) e))

is_empty_or : (xs : List ℕ) → (xs ≡ []) ⊎ (0 < length xs)
is_empty_or [] = inl refl
is_empty_or (x ∷ xs) = inr (omega arith)

-- a longer front that is a checkpoint has a line there
has_line : (v w : Text) (lines ls : List Line) (k : List ℕ) → IsTrue (are_lines v lines) → IsTrue (are_lines w ls) → 0 < length k
    → checkpoint_text v lines ++ k ≡ checkpoint_text w ls → (l : Line) × (more : List ℕ) × (k ≡ body v l ++ 10 ∷ more) × MayStand v lines l
has_line v w lines ls k h g some e = go (longer_text v w lines ls k h g e)
  where
    go : (v ≡ w) × Longer v lines ls k → (l : Line) × (more : List ℕ) × (k ≡ body v l ++ 10 ∷ more) × MayStand v lines l
    go (same, r) = by r.more r.lines_are r.rest_is
      where
        by : (more : List Line) → ls ≡ lines ++ more → k ≡ text_of_lines v more
            → (l : Line) × (more : List ℕ) × (k ≡ body v l ++ 10 ∷ more) × MayStand v lines l
        by [] are rest = absurd (let e : length k ≡ 0 = ap length rest in let z : ⊥ = omega (arith, some, e) in z)
        by (l ∷ more) are rest = (
          l,
          text_of_lines v more,
          rest ∙ append_assoc (body v l) (10 ∷ []) (text_of_lines v more),
          last_line v lines l
              (front_lines v (lines ++ l ∷ []) more
              (subst (λ xs. IsTrue (are_lines v xs)) (are ∙ sym (append_assoc lines (l ∷ []) more))
              (subst (λ u. IsTrue (are_lines u ls)) (sym same) g))),
        )

module _ (v : Text) (lines : List Line) (text rest : List ℕ) (whole : text ≡ checkpoint_text v lines ++ rest) (are : IsTrue (are_lines v lines))
    (some : 0 < length rest) (none : NoLine v lines rest) where
  abbrev here : ℕ
  here = length (checkpoint_text v lines)

  cut_at : (n : ℕ) → here ≤ n → take n text ≡ checkpoint_text v lines ++ take (n - here) rest
  cut_at n past =
      let sum : n ≡ here + (n - here) = omega arith in
      ap (take n) whole ∙ ap (λ m. take m (checkpoint_text v lines ++ rest)) sum ∙ take-append-add (checkpoint_text v lines) rest (n - here)

  no_longer : (n : ℕ) (w : Text) (ls : List Line) → n ≤ length text → SpellsLines w ls (take n text) → here < n → ⊥
  no_longer n w ls within spells past =
      let k = take (n - here) rest in
      let size : 0 < length k = omega (arith, some, past, length-take (n - here) rest) in
      let found = has_line v w lines ls k are spells.0 size (sym (cut_at n (omega arith)) ∙ spells.1) in
      none found.0 (found.1 ++ drop (n - here) rest)
      (sym (take-append-drop (n - here) rest) ∙ ap (λ front. front ++ drop (n - here) rest) found.2
      ∙ append_assoc (body v found.0) (10 ∷ found.1) (drop (n - here) rest))
      found.3

  longest : (n : ℕ) (w : Text) (ls : List Line) → n ≤ length text → SpellsLines w ls (take n text) → n ≤ here
  longest n w ls within spells = elim (cases_lt here n) [
    | inl past ↦ absurd (no_longer n w ls within spells past)
    | inr fits ↦ fits
  ]

  not_read : (o : Option (List Line)) → read_checkpoint text ≡ o → read_checkpoint text ≡ None
  not_read None e = e
  not_read (Some ls) e =
      let so = checkpoint_so text ls e in
      let all = longest (length text) so.0 ls (omega arith)
      (so.1, take_all (length text) text (omega arith) ∙ sym so.2) in
      let sum = ap length whole ∙ length-append (checkpoint_text v lines) rest in
      absurd (let z : ⊥ = omega (arith, all, sum, some) in z)

  pub first_bad : IsFirstBad text here
  first_bad =
      let sum = ap length whole ∙ length-append (checkpoint_text v lines) rest in
      record {
        none = not_read (read_checkpoint text) refl;
        within = omega (arith, sum);
        before = inr (v, lines, (are, ap (take here) whole ∙ take-append_seam (checkpoint_text v lines) rest));
        longest = longest;
      }

-- a checkpoint begins with its first line
starts : (v : Text) (lines : List Line) (rest : List ℕ) → checkpoint_text v lines ++ rest ≡ first_line v ++ (text_of_lines v lines ++ rest)
starts v lines rest =
    append_assoc (version_text v) (10 ∷ text_of_lines v lines) rest
    ∙ sym (append_assoc (version_text v) (10 ∷ []) (text_of_lines v lines ++ rest))

-- a text that begins with neither first line
pub no_version : (text : List ℕ) → ((v : Text) → BeginsWith text (first_line v) → ⊥) → IsFirstBad text 0
no_version text none = record {
  none = not_read (read_checkpoint text) refl;
  within = omega arith;
  before = inl refl;
  longest = λ n v lines within spells.
      absurd (none v (
        text_of_lines v lines ++ drop n text,
        sym (take-append-drop n text) ∙ ap (λ front. front ++ drop n text) spells.1 ∙ starts v lines (drop n text),
      ));
}
  where
    not_read : (o : Option (List Line)) → read_checkpoint text ≡ o → read_checkpoint text ≡ None
    not_read None e = e
    not_read (Some ls) e =
        let so = checkpoint_so text ls e in
        absurd (none so.0 (text_of_lines so.0 ls ++ [], sym so.2 ∙ sym (append-nil (checkpoint_text so.0 ls)) ∙ starts so.0 ls []))
