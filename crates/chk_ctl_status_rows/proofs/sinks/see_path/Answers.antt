use Rattle.std.proofs.Common.{List, [], ◌∷◌, ℕ, Some, None, Ok, Err, subst}
use Rattle.chk_site.specs.declared.acts.Call.TheVariants.{Size}
use Rattle.chk_site.specs.Once.{TakenOnce}
use Rattle.chk_site.specs.Site.{asked, sized}
use Rattle.chk_ctl_status_rows.specs.Sinks.{stands, unsized, went}
use Rattle.chk_ctl_status_rows.proofs.sinks.see_path.Goals as goal

pub returns-in-Ok-Some-clause-told : goal.returns-in-Ok-Some-clause-told
returns-in-Ok-Some-clause-told g c =
    stands (subst (λ (p : List ℕ). TakenOnce {V = ℕ} (asked c.args.who.now Size (p ∷ []) 0 0) sized
    (Ok (Some c.in-Ok-Some.written)) (g.S.Site.told c.args.site.now)
    (g.S.Site.told c.size_of.new.site)) c.requires.path
    (rw c.in-Ok-Some.field-0-is at c.in-Ok-Some.ensures.told)) c.see_mark.ensures.told

pub returns-in-Ok-None-clause-told : goal.returns-in-Ok-None-clause-told
returns-in-Ok-None-clause-told g c =
    went (subst (λ (p : List ℕ). TakenOnce {V = ℕ} (asked c.args.who.now Size (p ∷ []) 0 0) sized
    (Ok None) (g.S.Site.told c.args.site.now) (g.S.Site.told c.size_of.new.site)) c.requires.path
    (rw c.in-Ok-None.field-0-is at c.in-Ok-None.ensures.told))

pub returns-in-Err-clause-told : goal.returns-in-Err-clause-told
returns-in-Err-clause-told g c =
    unsized (subst (λ (p : List ℕ). TakenOnce {V = ℕ} (asked c.args.who.now Size (p ∷ []) 0 0)
    sized (Err c.in-Err.fault) (g.S.Site.told c.args.site.now)
    (g.S.Site.told c.size_of.new.site)) c.requires.path c.in-Err.ensures.told)
