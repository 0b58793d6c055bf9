use Rattle.std.proofs.Common.{◌∙◌, ap, sym, true≢false}
use Rattle.std.specs.Prelude.{string_bytes}
use Rattle.std.proofs.lemmas.Slice.Eq.{bytes_eq-Decides}
use Rattle.chk_site_rotations.specs.declared.log.Log.{Log}
use Rattle.chk_site_rotations.proofs.Placing.{not_within}
use Rattle.chk_site_rotations.proofs.logs.has_path.Goals as goal

pub returns-in-Some : goal.returns-in-Some
returns-in-Some c =
    let there = c.in-Some.ensures.lookup.3 in
    let same = bytes_eq-Decides c.as_str.result.now c.args.path.now in (
      λ t. (
        there.0,
        λ d. ap (λ (x : Log). string_bytes x.path) (sym (there.1 d))
            ∙ (sym c.as_str.ensures.value ∙ same.0 (sym c.eq.ensures ∙ t)),
      ),
      λ at. c.eq.ensures ∙ same.1 (c.as_str.ensures.value
          ∙ (ap (λ (x : Log). string_bytes x.path) (there.1 c.in-Some.log.now) ∙ at.1 c.in-Some.log.now)),
    )

pub returns-in-None : goal.returns-in-None
returns-in-None c = (
  λ f. absurd (true≢false (sym f)),
  λ at. absurd (not_within c.args.place _ at.0 c.in-None.ensures.lookup.3),
)
