use Rattle.std.proofs.Common.{◌≡◌, None, drop, refl, sym, ap, subst, ◌∙◌}
use Rattle.std.proofs.lemmas.List.{drop-drop, take_rest}
use Rattle.chk_seqfile.specs.Headers.{read_header}
use Rattle.chk_seqfile.specs.HeaderSteps.{HasCome}
use Rattle.chk_salvage.specs.Feeding.{fed_marker}
use Rattle.chk_salvage.proofs.FeedLemmas.{goes_header}
use Rattle.chk_salvage.proofs.pieces.Pieces.header.Goals as goal

pub returns-clause-goes : goal.returns-clause-goes
returns-clause-goes c =
    let self = c.args.self.now in
    let head = c.in_ok-head.head in
    let none : fed_marker self ≡ None = search in
    goes_header self _ head none refl refl
    (sym (ap read_header (take_rest c.deref.result.now self.used ∙ ap (drop self.used) c.deref.ensures.value)) ∙ sym c.in_ok-head.ensures.header)
    (sym (drop-drop head.end self.used self.bytes.items)) refl

pub invariant_of-self : goal.invariant_of-self
invariant_of-self c =
    let self = c.args.self.now in
    record {
      within = self.within;
      bounded = self.bounded;
      come = λ none.
          let rest = take_rest c.deref.result.now self.used ∙ ap (drop self.used) c.deref.ensures.value in
          subst (HasCome c.read_header_on.new.from) rest c.read_header_on.ensures.come;
      fits = self.fits;
    }
