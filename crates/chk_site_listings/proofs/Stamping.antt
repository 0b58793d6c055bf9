-- Stamps that are the same.
use Rattle.std.proofs.Common.{◌≡◌, ◌&&◌, ap}
use Rattle.std.specs.Prelude.{◌==◌}
use Rattle.std.specs.Bool.{Decides}
use Rattle.std.specs.Ordering.{int_eq}
use Rattle.std.proofs.lemmas.Bool.Decides.{Decides-and, Decides-like, Decides-eqb, Decides-int_eq}
use Rattle.chk_site_listings.specs.declared.stamps.Stamp.{Stamp}

-- their fields say whether they are
pub Decides-stamps : (a b : Stamp) → Decides
    ((a.device == b.device) && ((a.number == b.number)
    && ((int_eq a.modified.0 b.modified.0 && int_eq a.modified.1 b.modified.1)
    && (int_eq a.changed.0 b.changed.0 && int_eq a.changed.1 b.changed.1)))) (a ≡ b)
Decides-stamps a b =
    Decides-like _
    (λ f. λ i. record {
      device = f.0 i;
      number = f.1.0 i;
      modified = (f.1.1.0.0 i, f.1.1.0.1 i);
      changed = (f.1.1.1.0 i, f.1.1.1.1 i);
    })
    (λ e. (
      ap (λ (s : Stamp). s.device) e,
      (
        ap (λ (s : Stamp). s.number) e,
        (
          (ap (λ (s : Stamp). s.modified.0) e, ap (λ (s : Stamp). s.modified.1) e),
          (ap (λ (s : Stamp). s.changed.0) e, ap (λ (s : Stamp). s.changed.1) e),
        ),
      ),
    ))
    (Decides-and _ _ (Decides-eqb a.device b.device) (Decides-and _ _ (Decides-eqb a.number b.number)
    (Decides-and _ _
    (Decides-and _ _ (Decides-int_eq a.modified.0 b.modified.0) (Decides-int_eq a.modified.1 b.modified.1))
    (Decides-and _ _ (Decides-int_eq a.changed.0 b.changed.0) (Decides-int_eq a.changed.1 b.changed.1)))))
