-- The line of an audited stream is one line.
use Rattle.std.proofs.Common.{ℕ, ◌<◌, ◌^◌, Bool, true, false, List, [], ◌∷◌, ◌++◌, refl, arith, ◌∙◌, not, ◌==◌, subst, append_assoc}
use Rattle.std.proofs.lemmas.Bool.{and_from}
use Rattle.std.proofs.lemmas.List.Folds.{list_all-append}
use Rattle.std.specs.Prelude.{IsTrue, nat_le, codes, decimal, if◌then◌else◌}
use Rattle.chk_bytes.specs.Words.{is_word, joined_at, lacks}
use Rattle.chk_bytes.proofs.WordLemmas.{word_lacks}
use Rattle.chk_world.specs.ArchiveRuns.{is_one_line}
use Rattle.chk_cmd_output.proofs.OneLine.{all_lack, joined_lacks, Lack, none, next, number_lacks, one_line}
use Rattle.chk_ctl_sum.proofs.LineWords.{digits_lack}
use Rattle.chk_ctl_audit.specs.Lines.{begins, front_of, line_by, named, other_line, other_words, same_line}
use Rattle.chk_ctl_audit.specs.Lines.{same_words, short_line, short_words}

pub both_lack : (a b : List ℕ) → IsTrue (lacks 10 a) → IsTrue (lacks 10 b) → IsTrue (lacks 10 (a ++ b))
both_lack a b one other =
    list_all-append (λ (x : ℕ). not (x == 10)) a b ∙ and_from (lacks 10 a) (lacks 10 b) one other

module _ (source kind name : List ℕ) (start end begin : ℕ) (a : IsTrue (is_word source))
    (b : IsTrue (is_word kind)) (c : IsTrue (is_word name)) (d : start < 2 ^ 64)
    (e : end < 2 ^ 64) (f : begin < 2 ^ 64) where
  front_lacks : (found : List ℕ) → IsTrue (lacks 10 found)
      → IsTrue (lacks 10 (front_of found source kind name start end))
  front_lacks found one =
      both_lack (named found source kind name)
      (codes " start " ++ (decimal start ++ (codes " end " ++ decimal end)))
      (both_lack found (codes " " ++ (source ++ (codes " " ++ (kind ++ (codes " " ++ name))))) one
      (both_lack (codes " ") (source ++ (codes " " ++ (kind ++ (codes " " ++ name)))) refl
      (both_lack source (codes " " ++ (kind ++ (codes " " ++ name)))
      (word_lacks 10 source (omega arith) a)
      (both_lack (codes " ") (kind ++ (codes " " ++ name)) refl
      (both_lack kind (codes " " ++ name) (word_lacks 10 kind (omega arith) b)
      (both_lack (codes " ") name refl (word_lacks 10 name (omega arith) c)))))))
      (both_lack (codes " start ") (decimal start ++ (codes " end " ++ decimal end)) refl
      (both_lack (decimal start) (codes " end " ++ decimal end) (number_lacks start d)
      (both_lack (codes " end ") (decimal end) refl (number_lacks end e))))

  line_one : (found : List ℕ) → IsTrue (lacks 10 found) → (rest : List (List ℕ)) → Lack rest
      → IsTrue (is_one_line (line_by found source kind name start end rest))
  line_one found one rest lack =
      subst (λ (t : List ℕ). IsTrue (is_one_line t))
      (append_assoc (front_of found source kind name start end)
      (codes " " ++ joined_at 32 rest) (10 ∷ []))
      (one_line (front_of found source kind name start end ++ (codes " " ++ joined_at 32 rest))
      (both_lack (front_of found source kind name start end) (codes " " ++ joined_at 32 rest)
      (front_lacks found one)
      (both_lack (codes " ") (joined_at 32 rest) refl
      (joined_lacks 32 rest refl (all_lack lack)))))

  begins_lack : {rest : List (List ℕ)} → Lack rest → Lack (begins begin rest)
  begins_lack rest = next refl (next refl (next refl (next (number_lacks begin f) rest)))

  same_lack : (digest : List ℕ) → Lack (same_words digest)
  same_lack digest = next refl (next (digits_lack digest) none)

  pub same_one : (digest : List ℕ)
      → IsTrue (is_one_line (same_line source kind name start end begin digest))
  same_one digest = go (nat_le begin start)
    where
      go : (h : Bool) → IsTrue (is_one_line (if h
          then line_by (codes "same") source kind name start end (same_words digest)
          else line_by (codes "PART") source kind name start end
          (begins begin (same_words digest))))
      go true = line_one (codes "same") refl (same_words digest) (same_lack digest)
      go false =
          line_one (codes "PART") refl (begins begin (same_words digest))
          (begins_lack (same_lack digest))

  pub other_one : (words : List ℕ) → IsTrue (lacks 10 words) → (digest log : List ℕ)
      → IsTrue (is_one_line (other_line words source kind name start end begin digest log))
  other_one words one digest log =
      let rest : Lack (other_words digest log) =
      next refl (next (digits_lack digest) (next refl (next (digits_lack log) none))) in
      line_one words one (begins begin (other_words digest log)) (begins_lack rest)

  pub short_one : (words : List ℕ) → IsTrue (lacks 10 words) → (at : ℕ) → at < 2 ^ 64
      → IsTrue (is_one_line (short_line words source kind name start end begin at))
  short_one words one at g =
      let rest : Lack (short_words at) =
      next refl (next refl (next refl (next (number_lacks at g) none))) in
      line_one words one (begins begin (short_words at)) (begins_lack rest)

-- the first words where they differ at an offset
pub differs_lacks : (at : ℕ) → at < 2 ^ 64 → IsTrue (lacks 10 (codes "DIFFERS at " ++ decimal at))
differs_lacks at fits = both_lack (codes "DIFFERS at ") (decimal at) refl (number_lacks at fits)
