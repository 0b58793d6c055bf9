use Rattle.std.proofs.Common.{inl, sym, ◌∙◌, subst, List, ℕ}
use Rattle.std.specs.Prelude.{IsTrue}
use Rattle.chk_bytes.specs.Words.{is_word}
use Rattle.chk_bytes.proofs.FaultLemmas.{is_word-from_faultless}
use Rattle.chk_bytes.proofs.WordLemmas.{word_facts}
use Rattle.chk_bytes.proofs.word.Word.new.Goals as goal

pub returns-in-Some-clause-refused : goal.returns-in-Some-clause-refused
returns-in-Some-clause-refused c = inl (sym c.word_fault.ensures ∙ c.in-Some.is)

pub from_text-requires : goal.from_text-requires
from_text-requires c =
    let IsWord : List ℕ → Type 0 = λ t. IsTrue (is_word t) in
    let cases = c.in-Ok.ensures.cases in
    record {
      word = subst IsWord (sym cases.0)
          (is_word-from_faultless _ (sym c.word_fault.ensures ∙ c.in_default.is));
    }

pub unreachable-requires : goal.unreachable-requires
unreachable-requires c =
    let word =
    is_word-from_faultless c.args.text.now (sym c.word_fault.ensures ∙ c.in_default.is) in
    c.in-Err.ensures.cases.0 (word_facts c.args.text.now word).utf8
