-- A site that was lent is given back.
use Rattle.std.proofs.Common.{◌≡◌, ◌∙◌, ap, subst, sym, ℕ, List, [], ◌∷◌, Option, Some, None}
use Rattle.chk_site.specs.History.{Every, History}
use Rattle.chk_site.specs.Site.{Adds}
use Rattle.chk_ctl_machine.specs.declared.extent.LongInspection.{LongInspection}
use Rattle.chk_ctl_machine.specs.Deeds.{after, Deed, Lends, TakesBack, Told}
use Rattle.chk_ctl_machine.specs.Inspecting.{Inspects, MayTakeBack}
use Rattle.chk_ctl_machine.specs.Lending.{Lent}

-- the history of the site that was lent last
from_of : Told → Option History → Option History
from_of None other = other
from_of (Some []) other = other
from_of (Some (Lends long from count ∷ deeds)) other = from
from_of (Some (deed ∷ deeds)) other = other

from_same : (long other : Option LongInspection) (from back now : Option History) (n m : ℕ)
    (told : Told) (deeds : List Deed)
    → after (Lends long from n) told ≡ Some (Lends other back m ∷ deeds) → from ≡ back
unfolding from_of
from_same long other from back now n m None deeds is = absurd (cc)
from_same long other from back now n m (Some before) deeds is = ap (λ t. from_of t now) is

pub may_take_back : (long : Option LongInspection) (from now : Option History) (n : ℕ)
    (old mid : Told) → mid ≡ after (Lends long from n) old → Adds from now (Every Inspects)
    → MayTakeBack mid now
may_take_back long from now n old mid is adds = λ other back m deeds e.
    subst (λ (h : Option History). Adds h now (Every Inspects))
    (from_same long other from back now n m old deeds (sym is ∙ e)) adds

pub lent : (long : Option LongInspection)
    (P : Option History → ℕ → Option History → ℕ → Type 0) (from to : Option History) (n m : ℕ)
    (old mid new : Told) → mid ≡ after (Lends long from n) old → new ≡ after (TakesBack to m) mid
    → P from n to m → Lent long P old new
lent long P from to n m old mid new first last did = record {
  from = from;
  before = n;
  to = to;
  now = m;
  is = last ∙ ap (after (TakesBack to m)) first;
  did = did;
}
