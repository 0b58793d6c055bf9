use Rattle.std.proofs.Common.{◌≡◌, ◌+◌, ◌-◌, ◌<◌, ◌∙◌, ap, arith, drop, get_or, inl, inr, refl}
use Rattle.std.proofs.lemmas.List.{get_or-drop, length-drop}
use Rattle.std.proofs.lemmas.Str.{len_utf8_ascii}
use Rattle.std.proofs.lemmas.Str.Pattern.{NoCharPasses-char}
use Rattle.chk_site_files.proofs.logs.base_of.Goals as goal

pub returns-in-Some : goal.returns-in-Some
returns-in-Some c =
    let h = c.in-Some.ensures.cases in
    let name = c.args.path.now in
    let low : 47 < 128 = omega arith in
    let next : h.1 ≡ h.0 + 1 = omega (arith, h.2.1.ends, len_utf8_ascii 47 low) in
    inr (
      h.0,
      record {
        within = omega (arith, h.7, next);
        there = h.2.1.byte low;
        last = λ k a l e.
            let back : h.1 + (k - h.1) ≡ k = omega (arith, a, next) in
            NoCharPasses-char 47 (drop h.1 name) (k - h.1) h.2.0 low
            (omega (arith, a, l, next, length-drop h.1 name))
            (get_or-drop h.1 name (k - h.1) 0 ∙ ap (λ n. get_or name n 0) back ∙ e);
      },
      h.4 ∙ ap (λ n. drop n name) next,
    )

pub returns-in-None : goal.returns-in-None
returns-in-None c =
    inl (λ i l. NoCharPasses-char 47 c.args.path.now i c.in-None.ensures.cases (omega arith) l, refl)
