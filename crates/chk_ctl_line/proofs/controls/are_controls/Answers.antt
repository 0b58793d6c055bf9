use Rattle.std.proofs.Common.{◌≡◌, ◌∙◌, ℕ, List, Option, ap, map, option_map, refl, sym}
use Rattle.std.specs.Borrow.{Bor}
use Rattle.std.specs.List.{list_all}
use Rattle.std.proofs.lemmas.List.Folds.{list_all-map}
use Rattle.chk_ctl_line.specs.Controls.{are_controls, is_control}
use Rattle.chk_ctl_line.proofs.controls.are_controls.Goals as goal

pub returns-in-Some : goal.returns-in-Some
returns-in-Some c =
    let xs = c.in-Some.texts.now in
    let same : list_all (λ (w : Bor (List ℕ)). is_control w.now) xs
    ≡ list_all is_control (map (λ (w : Bor (List ℕ)). w.now) xs) =
    rw (list_all-map is_control (λ (w : Bor (List ℕ)). w.now) xs) refl in
    c.all_controls.ensures ∙ same
    ∙ ap (λ (t : Option (Bor (List (Bor (List ℕ))))). are_controls
    (option_map (λ s. map (λ w. w.now) s.now) t)) (sym c.in-Some.is)
