use Rattle.std.proofs.Common.{◌∙◌, sym, subst}
use Rattle.std.specs.Prelude.{IsTrue}
use Rattle.chk_bytes.specs.Words.{is_word}
use Rattle.chk_bytes.proofs.WordLemmas.{word_facts}
use Rattle.chk_site.proofs.SuffixLemmas.{suffix_is_word}
use Rattle.chk_site.proofs.suffixes.Suffix.new.Goals as goal

pub from_text-requires : goal.from_text-requires
from_text-requires c =
    let word = suffix_is_word c.args.text.now (sym c.is_suffix.ensures ∙ c.if-not-is_suffix.false) in
    record { word = subst (λ t. IsTrue (is_word t)) (sym c.in-Ok.ensures.cases.0) word }

pub unreachable-requires : goal.unreachable-requires
unreachable-requires c =
    let word = suffix_is_word c.args.text.now (sym c.is_suffix.ensures ∙ c.if-not-is_suffix.false) in
    c.in-Err.ensures.cases.0 (word_facts c.args.text.now word).utf8
