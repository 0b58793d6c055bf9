use Rattle.std.proofs.Common.{◌≡◌, ◌∙◌, ◌∷◌, ◌++◌, [], List, ℕ, false, Result, Ok, Err, inr, ap, rules}
use Rattle.std.specs.Prelude.{string_bytes, OnOk}
use Rattle.std.specs.List.{list_any}
use Rattle.chk_site_real.specs.declared.locks.Lock.{Lock}
use Rattle.chk_site_real.specs.Locks.{is_of, Holds}
use Rattle.chk_site_real.proofs.locks.Locks.take.Goals as goal

-- what holds at Ok goes on to what follows from it
on_ok : {T E : Type 0} (r : Result T E) {P Q : Type 0} → (P → Q) → OnOk r P → OnOk r Q
on_ok (Ok x) f p = f p
on_ok (Err e) f p = p

-- a lock that comes last, where it wasn't held
last_holds :
    (lock : Lock) (old mid new : List Lock) (name : List ℕ)
    → list_any (is_of name) old ≡ false → mid ≡ old → string_bytes lock.name ≡ name
    → new ≡ mid ++ lock ∷ [] → Holds old new name
last_holds lock old mid new name free same named put =
    inr (free, (lock, named, put ∙ ap (λ l. l ++ lock ∷ []) same))

pub returns-clause-held : goal.returns-clause-held
returns-clause-held g c =
    on_ok c.keep.result
    (last_holds
    (record { name = c.in_ok-name_kept.name_kept; _file = c.in_ok-file.file })
    c.args.self.now.held.items c.make_place.new.items.items c.keep.new.self.held.items
    c.args.name.now
    (search rules) c.make_place.ensures.same (search rules))
    c.keep.ensures.held
