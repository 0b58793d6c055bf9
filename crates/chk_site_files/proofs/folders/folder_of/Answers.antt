use Rattle.std.proofs.Common.{◌≡◌, ◌-◌, ◌∙◌, Some, None, ap, arith, inl, inr, refl, take}
use Rattle.std.proofs.lemmas.Str.Pattern.{rfind_char}
use Rattle.chk_site_files.specs.Folders.{folder_before}
use Rattle.chk_site_files.proofs.folders.folder_of.Goals as goal

pub returns-in-Some : goal.returns-in-Some
returns-in-Some c =
    let split = rfind_char 47 c.args.name.now (Some c.in-Some.slash) c.in-Some.ensures.cases (omega arith) in
    let all : c.in-Some.slash - 0 ≡ c.in-Some.slash = omega arith in
    let front : c.range.result.now ≡ take c.in-Some.slash c.args.name.now = c.range.ensures.value ∙ ap (λ n. take n c.args.name.now) all in
    inr (c.in-Some.slash, record { within = split.0; there = split.1; last = split.2 }, c.folder_before.ensures ∙ ap folder_before front)

pub returns-in-None : goal.returns-in-None
returns-in-None c =
    inl (rfind_char 47 c.args.name.now None c.in-None.ensures.cases (omega arith), refl)
