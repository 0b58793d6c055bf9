-- What is read of a text so far.
use Rattle.std.proofs.Common.{◌≡◌, ℕ, ◌+◌, ◌-◌, ◌<◌, ◌≤◌, false, List, [], ◌∷◌, ◌++◌, Some, None, length, take, drop, ap, sym, subst, ◌∙◌, true≢false, arith, append_assoc, append-nil, length-append, length-take, length-drop}
use Rattle.std.specs.Prelude.{IsTrue, position, ◌==◌}
use Rattle.std.proofs.lemmas.List.{take_all, nil_from_length}
use Rattle.std.proofs.Math.Seq.{drop-append_seam}
use Rattle.chk_bytes.specs.Words.{lacks, SplitsAt}
use Rattle.chk_bytes.proofs.PartLemmas.{split_found, split_none, same_split, lacks-separator}
use Rattle.chk_world.specs.Checkpoints.{Line, Version as Text, line_text, checkpoint_text, are_lines, read_checkpoint}
use Rattle.chk_world.proofs.CheckpointsRead.{checkpoint_back}
use Rattle.chk_checkpoint.specs.declared.seen.Seen.{Seen}
use Rattle.chk_checkpoint.specs.Fields.{IsLineText}
use Rattle.chk_checkpoint.specs.Seen.{HasSeen, may_follow, body, MayStand, NoLine, TookLine}
use Rattle.chk_checkpoint.specs.Damage.{IsFirstBad}
use Rattle.chk_checkpoint.proofs.SeenLemmas.{line_added}
use Rattle.chk_checkpoint.proofs.WrittenLemmas.{line_more}
use Rattle.chk_checkpoint.proofs.Fronts.{body_lacks, one_line, first_bad}

-- the text begins with a checkpoint of these lines, which ends at this byte
pub record SoFar (v : Text) (lines : List Line) (seen : Seen) (text : List ℕ) (at : ℕ) : Type 0 where
  pub here : at ≡ length (checkpoint_text v lines)
  pub rest : List ℕ
  pub whole : text ≡ checkpoint_text v lines ++ rest
  pub are : IsTrue (are_lines v lines)
  pub has_seen : HasSeen seen lines

-- what stands behind it
abbrev pub behind : List ℕ → ℕ → List ℕ
behind text at = take (length text - at) (drop at text)

-- no newline follows
pub no_newline : (v : Text) (lines : List Line) (text : List ℕ) → position (λ b. b == 10) text ≡ None → NoLine v lines text
no_newline v lines text none l rest is stands =
    lacks-separator 10 (body v l) rest (subst (λ text. IsTrue (lacks 10 text)) is (split_none 10 text none))

module _ (v : Text) (lines : List Line) (text : List ℕ) (size : ℕ) (found : position (λ b. b == 10) text ≡ Some size) where
  -- a line that stands there is spelled by what stands before the newline
  spelled_there : (l : Line) (rest : List ℕ) → text ≡ body v l ++ 10 ∷ rest → MayStand v lines l → take size text ≡ body v l
  spelled_there l rest is stands =
      let split = split_found 10 size text found in
      (same_split 10 (take size text) (drop (size + 1) text) (body v l) rest split.front_lacks (body_lacks v l stands.line)
      (sym split.whole ∙ is)).0

  -- it spells no line
  pub no_line : ((l : Line) → IsLineText v (take size text) l → ⊥) → NoLine v lines text
  no_line none l rest is stands =
      none l (record { line = stands.line; fits = stands.fits; spelled = sym (spelled_there l rest is stands) })

  -- it spells one that may not follow
  pub no_follower : (l : Line) → IsLineText v (take size text) l → may_follow lines l ≡ false → NoLine v lines text
  no_follower l read none m rest is stands =
      let same = one_line v m l stands.line read.line stands.fits read.fits (sym (spelled_there m rest is stands) ∙ sym read.spelled) in
      true≢false (sym stands.follows ∙ (ap (may_follow lines) same ∙ none))

-- it ends before the text does
pub size_within : (text : List ℕ) (size : ℕ) → position (λ b. b == 10) text ≡ Some size → size < length text
size_within text size found =
    let split = split_found 10 size text found in
    let a = length-take size text in
    let b = ap length split.whole ∙ length-append (take size text) (10 ∷ drop (size + 1) text) in
    omega (arith, a, b)

module _ (v : Text) (lines : List Line) (seen : Seen) (text : List ℕ) (at : ℕ) (s : SoFar v lines seen text at) where
  abbrev front : List ℕ
  front = checkpoint_text v lines

  sum : length text ≡ at + length s.rest
  sum =
      let a = ap length s.whole ∙ length-append front s.rest in
      let b = s.here in
      omega (arith, a, b)

  behind_is : behind text at ≡ s.rest
  behind_is =
      let fits : length (drop at text) ≤ length text - at = omega (arith, length-drop at text) in
      take_all (length text - at) (drop at text) fits
      ∙ (ap (drop at) s.whole ∙ (ap (λ n. drop n (front ++ s.rest)) s.here ∙ drop-append_seam front s.rest))

  pub bad : at < length text → NoLine v lines (behind text at) → IsFirstBad text at
  bad more none =
      let some : 0 < length s.rest = omega (arith, more, sum) in
      subst (IsFirstBad text) (sym s.here)
      (first_bad v lines text s.rest s.whole s.are some (subst (NoLine v lines) behind_is none))

  -- a line was taken
  pub one_more : (next : Seen) (more : List Line) (size : ℕ) → TookLine v lines (behind text at) more next size
      → SoFar v more next text (at + (size + 1))
  one_more next more size t =
      let l = t.line in
      let back : List ℕ = drop (size + 1) (behind text at) in
      let split : SplitsAt 10 (behind text at) (take size (behind text at)) back = split_found 10 size (behind text at) t.found in
      let longer : checkpoint_text v more ≡ front ++ line_text v l = ap (checkpoint_text v) t.more_is ∙ line_more v lines l in
      record {
        here =
            let a = ap length longer ∙ length-append front (line_text v l) in
            let b = s.here in
            let c = length-append (body v l) (10 ∷ []) in
            let d = ap length t.read.spelled in
            let e = length-take size (behind text at) in
            let f = ap length split.whole ∙ length-append (take size (behind text at)) (10 ∷ back) in
            omega (arith, a, b, c, d, e, f);
        rest = back;
        whole =
            s.whole ∙ ap (λ rest. front ++ rest) (sym behind_is ∙ split.whole ∙ ap (λ w. w ++ 10 ∷ back) (sym t.read.spelled)
            ∙ sym (append_assoc (body v l) (10 ∷ []) back))
            ∙ sym (append_assoc front (line_text v l) back) ∙ ap (λ t. t ++ back) (sym longer);
        are = subst (λ ls. IsTrue (are_lines v ls)) (sym t.more_is) (line_added v lines l s.are t.read.line t.read.fits t.follows);
        has_seen = t.has_seen;
      }

  -- nothing follows
  pub all_read : length text ≤ at → read_checkpoint text ≡ Some lines
  all_read past =
      let none : s.rest ≡ [] = nil_from_length s.rest (omega (arith, past, sum)) in
      ap read_checkpoint (s.whole ∙ ap (λ rest. front ++ rest) none ∙ append-nil front) ∙ checkpoint_back v lines s.are
