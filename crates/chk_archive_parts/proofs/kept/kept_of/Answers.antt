use Rattle.std.proofs.Common.{◌∙◌, Ok, subst, length}
use Rattle.std.specs.Prelude.{IfOk}
use Rattle.chk_site.specs.History.{Every}
use Rattle.chk_site.proofs.Runs.{adds_none}
use Rattle.chk_site.proofs.Leads.{leads_none}
use Rattle.chk_world.specs.JobSteps.{IsOf, ReadsFile}
use Rattle.chk_archive_parts.specs.Kept.{NoneRepeats, AreKeptOf}
use Rattle.chk_archive_parts.proofs.KeptFirsts.{all_kept_of}
use Rattle.chk_archive_parts.proofs.PastKept.{none_repeat, sifted, kept_told}
use Rattle.chk_archive_parts.proofs.kept.kept_of.Goals as goal

pub returns-then-not-has_repeats-clause-raw : goal.returns-then-not-has_repeats-clause-raw
returns-then-not-has_repeats-clause-raw g c v found known records are =
    let heads = c.args.heads.now in
    let past = c.in_ok-past.past in
    let none = subst (NoneRepeats heads) c.as_slice.ensures (c.has_repeats.ensures.none c.if-not-has_repeats.true) in
    leads_none (g.S.Site.told c.args.site.now)
    (λ h k. none_repeat v c.args.files.now heads found known c.args.spans.now records c.requires.spans are past
    c.in_ok-past.ensures.past c.in_ok-past.ensures.whole none)

pub returns-then-not-has_repeats-clause-told : goal.returns-then-not-has_repeats-clause-told
returns-then-not-has_repeats-clause-told g c stamped v found known records are =
    let heads = c.args.heads.now in
    let past = c.in_ok-past.past in
    let none = subst (NoneRepeats heads) c.as_slice.ensures (c.has_repeats.ensures.none c.if-not-has_repeats.true) in
    let site = g.S.Site.told c.args.site.now in
    kept_told v c.args.files.now heads found known c.args.spans.now records c.requires.spans are stamped (Ok past)
    (leads_none site
    (λ h k. none_repeat v c.args.files.now heads found known c.args.spans.now records c.requires.spans are past
    c.in_ok-past.ensures.past c.in_ok-past.ensures.whole none))
    (adds_none site (Every (IsOf ReadsFile)) (λ history. tt))

pub returns-clause-raw : goal.returns-clause-raw
returns-clause-raw g c v found known records are =
    sifted v c.args.files.now c.args.heads.now found known c.args.spans.now records c.requires.spans are
    c.as_slice-2.result.now (c.as_slice-2.ensures ∙ c.in_ok-past.ensures.past) c.sift.result
    (λ o. c.sift.ensures.raw v _ records o)

pub returns-clause-told : goal.returns-clause-told
returns-clause-told g c stamped v found known records are =
    kept_told v c.args.files.now c.args.heads.now found known c.args.spans.now records c.requires.spans are stamped
    c.sift.result
    (sifted v c.args.files.now c.args.heads.now found known c.args.spans.now records c.requires.spans are
    c.as_slice-2.result.now (c.as_slice-2.ensures ∙ c.in_ok-past.ensures.past) c.sift.result
    (λ o. c.sift.ensures.raw v _ records o))
    c.sift.ensures.own

pub returns-then-not-has_repeats-clause-among : goal.returns-then-not-has_repeats-clause-among
returns-then-not-has_repeats-clause-among g c =
    let heads = c.args.heads.now in
    let past = c.in_ok-past.past in
    subst (λ ps. AreKeptOf heads ps (length ps) past) c.in_ok-past.ensures.past
    (all_kept_of heads past)

pub returns-clause-among : goal.returns-clause-among
returns-clause-among g c =
    subst (λ ps. IfOk c.sift.result (AreKeptOf c.args.heads.now ps (length ps)))
    (c.as_slice-2.ensures ∙ c.in_ok-past.ensures.past) c.sift.ensures.among
