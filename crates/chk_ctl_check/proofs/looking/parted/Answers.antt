use Rattle.std.proofs.Common.{◌<◌, ◌∙◌, ◌++◌, ◌∷◌, List, ap, ap₂, arith, subst, sym, ℕ}
use Rattle.std.proofs.lemmas.List.{take-append-drop}
use Rattle.std.proofs.lemmas.Str.Pattern.{NoCharPasses-char, drop_at_char}
use Rattle.chk_ctl_check.specs.Logs.{LacksSlash}
use Rattle.chk_ctl_check.proofs.looking.parted.Goals as goal

pub returns-in-Some : goal.returns-in-Some
returns-in-Some c =
    let h = c.in-Some.ensures.cases in
    let path = c.args.path.now in
    let low : 47 < 128 = omega arith in
    record {
      some = record {
        whole = sym (take-append-drop h.0 path)
            ∙ ap₂ (λ (a b : List ℕ). a ++ b) (sym h.3)
            (drop_at_char 47 path h.0 h.1 h.2.1 low ∙ ap (λ (b : List ℕ). 47 ∷ b) (sym h.4));
        last = subst LacksSlash (sym h.4) (λ k l. NoCharPasses-char 47 _ k h.2.0 low l);
      };
      none = tt;
    }

pub returns-in-None : goal.returns-in-None
returns-in-None c = record {
  some = tt;
  none = λ i l. NoCharPasses-char 47 c.args.path.now i c.in-None.ensures.cases (omega arith) l;
}
