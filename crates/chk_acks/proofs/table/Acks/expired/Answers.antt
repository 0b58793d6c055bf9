use Rattle.std.proofs.Common.{ap, min, subst, sym, ◌≤◌, ◌∙◌, ◌≡◌, Option, ℕ, refl}
use Rattle.std.specs.List.{All, Contains, filter, reduce}
use Rattle.std.specs.Option.{IfSome, IsNone}
use Rattle.std.proofs.lemmas.List.Elements.{All-filter, All-map}
use Rattle.chk_acks.specs.declared.row.Row.{Row}
use Rattle.chk_acks.specs.Rows.{expired_adaptors, is_expired}
use Rattle.chk_acks.specs.Table.{IsKnown, Table}
use Rattle.chk_acks.specs.Sound.{IsSound}
use Rattle.chk_acks.proofs.Least.{least_below, least_in, least_none, some_of_all}
use Rattle.chk_acks.proofs.table.Acks.expired.Goals as goal

-- what was found, among the rows that are seen
found : (c : goal.After-least_expired) → c.least_expired.result
    ≡ reduce min (expired_adaptors c.args.now c.args.age c.args.self.now.rows)
found c =
    c.least_expired.ensures
    ∙ ap (λ rows. reduce min (expired_adaptors c.args.now c.args.age rows))
    (ap (λ (t : Table). t.rows) c.self.view_is)

pub returns-clause-none : goal.returns-clause-none
returns-clause-none c = (
  (λ none. least_none (expired_adaptors c.args.now c.args.age c.args.self.now.rows)
      (subst (λ (r : Option ℕ). IsNone r) (found c) none)),
  (λ empty. subst (λ (r : Option ℕ). IsNone r) (sym (found c ∙ ap (reduce min) empty)) refl),
)

pub returns-clause-some : goal.returns-clause-some
returns-clause-some c =
    subst (λ (r : Option ℕ). IfSome r
    (Contains (expired_adaptors c.args.now c.args.age c.args.self.now.rows))) (sym (found c))
    (least_in (expired_adaptors c.args.now c.args.age c.args.self.now.rows))

pub returns-clause-least : goal.returns-clause-least
returns-clause-least c =
    subst (λ (r : Option ℕ). IfSome r
    (λ m. All (λ y. m ≤ y) (expired_adaptors c.args.now c.args.age c.args.self.now.rows)))
    (sym (found c))
    (least_below (expired_adaptors c.args.now c.args.age c.args.self.now.rows))

pub returns-clause-known : goal.returns-clause-known
returns-clause-known c =
    let sound : IsSound c.args.self.now = subst IsSound c.self.view_is c.self.invariant.sound in
    some_of_all (IsKnown c.args.self.now)
    (expired_adaptors c.args.now c.args.age c.args.self.now.rows) c.least_expired.result
    (returns-clause-some c)
    (All-map (IsKnown c.args.self.now) (λ (row : Row). row.adaptor)
    (filter (is_expired c.args.now c.args.age) c.args.self.now.rows)
    (All-filter (is_expired c.args.now c.args.age)
    (λ (row : Row). IsKnown c.args.self.now row.adaptor) c.args.self.now.rows sound.known))
