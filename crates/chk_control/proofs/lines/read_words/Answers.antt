use Rattle.std.proofs.Common.{◌∙◌, ap}
use Rattle.std.specs.Prelude.{codes}
use Rattle.std.proofs.lemmas.Result.{err_from_is_err_and}
use Rattle.chk_control.specs.declared.commands.Command.TheVariants.{Stop, Shutdown}
use Rattle.chk_control.specs.Lines.{meaning_of_words}
use Rattle.chk_control.proofs.ReadingLemmas.{own_word, other_word, same_words, exact_reading, name_meant, unknown_meant}
use Rattle.chk_control.proofs.lines.read_words.Goals as goal

pub returns-in_default : goal.returns-in_default
unfolding meaning_of_words
returns-in_default c = ap meaning_of_words c.in_default.ensures.none

pub returns-then-eq : goal.returns-then-eq
unfolding meaning_of_words
returns-then-eq c =
    same_words _ _ c.read_add.result
    (own_word _ _ _ _
    (codes "add") _ c.in-Some.ensures.some c.eq.ensures c.as_slice.ensures c.if-eq.true)
    c.read_add.ensures

pub returns-then-eq-2 : goal.returns-then-eq-2
unfolding meaning_of_words
returns-then-eq-2 c =
    same_words _ _ c.alone.result
    (own_word _ _ _ _
    (codes "close") _ c.in-Some.ensures.some c.eq-2.ensures c.as_slice-2.ensures c.if-eq-2.true)
    (exact_reading _ c.alone.result c.alone.ensures)

pub returns-then-eq-3 : goal.returns-then-eq-3
unfolding meaning_of_words
returns-then-eq-3 c =
    same_words _ _ c.alone-then-eq-3.result
    (own_word _ _ _ _
    (codes "help") _ c.in-Some.ensures.some c.eq-3.ensures c.as_slice-3.ensures c.if-eq-3.true)
    (exact_reading _ c.alone-then-eq-3.result c.alone-then-eq-3.ensures)

pub returns-then-eq-4 : goal.returns-then-eq-4
unfolding meaning_of_words
returns-then-eq-4 c =
    same_words _ _ c.alone-then-eq-4.result
    (own_word _ _ _ _
    (codes "list") _ c.in-Some.ensures.some c.eq-4.ensures c.as_slice-4.ensures c.if-eq-4.true)
    (exact_reading _ c.alone-then-eq-4.result c.alone-then-eq-4.ensures)

pub returns-then-eq-5 : goal.returns-then-eq-5
unfolding meaning_of_words
returns-then-eq-5 c =
    same_words _ _ c.alone-then-eq-5.result
    (own_word _ _ _ _
    (codes "reloadcollectors") _ c.in-Some.ensures.some c.eq-5.ensures c.as_slice-5.ensures c.if-eq-5.true)
    (exact_reading _ c.alone-then-eq-5.result c.alone-then-eq-5.ensures)

pub returns-then-eq-6 : goal.returns-then-eq-6
unfolding meaning_of_words
returns-then-eq-6 c =
    ap meaning_of_words (own_word _ _ _ _
    (codes "stop") _ c.in-Some.ensures.some c.eq-6.ensures c.as_slice-6.ensures c.if-eq-6.true)
    ∙ name_meant Stop _ c.in_ok-name.name c.in_ok-name.ensures.name c.in_ok-name.ensures.good

pub returns-in_err-name : goal.returns-in_err-name
unfolding meaning_of_words
returns-in_err-name c =
    same_words _ _ c.from_residual.result
    (own_word _ _ _ _
    (codes "stop") _ c.in-Some.ensures.some c.eq-6.ensures c.as_slice-6.ensures c.if-eq-6.true)
    (let p = err_from_is_err_and c.from_residual.result c.from_residual.ensures.1 in
    rw (p.1, p.2) (c.in_err-name.ensures.fault Stop))

pub returns-then-eq-7 : goal.returns-then-eq-7
unfolding meaning_of_words
returns-then-eq-7 c =
    same_words _ _ c.alone-then-eq-7.result
    (own_word _ _ _ _
    (codes "stopall") _ c.in-Some.ensures.some c.eq-7.ensures c.as_slice-7.ensures c.if-eq-7.true)
    (exact_reading _ c.alone-then-eq-7.result c.alone-then-eq-7.ensures)

pub returns-then-eq-8 : goal.returns-then-eq-8
unfolding meaning_of_words
returns-then-eq-8 c =
    ap meaning_of_words (own_word _ _ _ _
    (codes "shutdown") _ c.in-Some.ensures.some c.eq-8.ensures c.as_slice-8.ensures c.if-eq-8.true)
    ∙ name_meant Shutdown _ c.in_ok-name-2.name c.in_ok-name-2.ensures.name c.in_ok-name-2.ensures.good

pub returns-in_err-name-2 : goal.returns-in_err-name-2
unfolding meaning_of_words
returns-in_err-name-2 c =
    same_words _ _ c.from_residual-in_err-name-2.result
    (own_word _ _ _ _
    (codes "shutdown") _ c.in-Some.ensures.some c.eq-8.ensures c.as_slice-8.ensures c.if-eq-8.true)
    (let p =
    err_from_is_err_and c.from_residual-in_err-name-2.result c.from_residual-in_err-name-2.ensures.1 in rw (p.1, p.2) (c.in_err-name-2.ensures.fault Shutdown))

pub returns-then-eq-9 : goal.returns-then-eq-9
unfolding meaning_of_words
returns-then-eq-9 c =
    same_words _ _ c.alone-then-eq-9.result
    (own_word _ _ _ _
    (codes "stopagent") _ c.in-Some.ensures.some c.eq-9.ensures c.as_slice-9.ensures c.if-eq-9.true)
    (exact_reading _ c.alone-then-eq-9.result c.alone-then-eq-9.ensures)

pub returns : goal.returns
returns c =
    unknown_meant _ _ _ c.in-Some.ensures.some record {
      add = other_word _ _ (codes "add") _ c.eq.ensures c.as_slice.ensures c.if-eq.false;
      close = other_word _ _ (codes "close") _ c.eq-2.ensures c.as_slice-2.ensures c.if-eq-2.false;
      help = other_word _ _ (codes "help") _ c.eq-3.ensures c.as_slice-3.ensures c.if-eq-3.false;
      list_all = other_word _ _
          (codes "list") _ c.eq-4.ensures c.as_slice-4.ensures c.if-eq-4.false;
      reload = other_word _ _
          (codes "reloadcollectors") _ c.eq-5.ensures c.as_slice-5.ensures c.if-eq-5.false;
      stop = other_word _ _ (codes "stop") _ c.eq-6.ensures c.as_slice-6.ensures c.if-eq-6.false;
      stop_all = other_word _ _
          (codes "stopall") _ c.eq-7.ensures c.as_slice-7.ensures c.if-eq-7.false;
      shutdown = other_word _ _
          (codes "shutdown") _ c.eq-8.ensures c.as_slice-8.ensures c.if-eq-8.false;
      stop_agent = other_word _ _
          (codes "stopagent") _ c.eq-9.ensures c.as_slice-9.ensures c.if-eq-9.false;
    }
