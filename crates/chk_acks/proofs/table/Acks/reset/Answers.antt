use Rattle.std.proofs.Common.{arith, ap, ap₂, length, subst, sym, ◌≡◌, ◌∙◌, List, ℕ}
use Rattle.std.specs.Vec.{with_items}
use Rattle.std.proofs.lemmas.List.{with_items_is}
use Rattle.chk_acks.specs.Keeping.{Answers}
use Rattle.chk_acks.specs.Resets.{ends_back, without_rows}
use Rattle.chk_acks.specs.Table.{Table}
use Rattle.chk_acks.specs.Sound.{IsSound}
use Rattle.chk_acks.specs.Held.{table_of}
use Rattle.chk_acks.proofs.ResetLemmas.{length-back, sound_reset}
use Rattle.chk_acks.proofs.table.Acks.reset.Goals as goal

pub list_unmarked-requires : goal.list_unmarked-requires
list_unmarked-requires c =
    omega (arith, ap (λ (a : Answers). a.room) c.keep_others.ensures, c.self.invariant.places_fit)

-- the last ends that were set
ends : (c : goal.After-self-1) → (with_items c.self.inside.last c.set_back.new.last).items
    ≡ ends_back c.args.gone.now c.self.inside.committed.items c.self.inside.last.items
ends c =
    let gone = c.args.gone.now in
    let set : c.set_back.new.last ≡ ends_back gone c.self.inside.committed.items c.self.inside.last.items =
    c.set_back.ensures ∙ ap₂ (ends_back gone) c.deref.ensures.value c.deref_mut.ensures.value in
    with_items_is c.self.inside.last c.set_back.new.last
    (omega (
      arith,
      ap (length {A = ℕ}) set,
      length-back (length gone) gone c.self.inside.committed.items c.self.inside.last.items,
    ))
    ∙ set

-- the table that is left
left : (c : goal.After-self-1) → Answers → List ℕ → Table
left c answers last = record {
  rows = answers.rows;
  committed = c.self.inside.committed.items;
  last = last;
  room = answers.room;
}

whole : (c : goal.After-self-1) → left c c.keep_others.new.self
    (with_items c.self.inside.last c.set_back.new.last).items
    ≡ without_rows c.args.gone.now (table_of c.self.inside)
unfolding left
whole c = ap₂ (λ (answers : Answers) (last : List ℕ). left c answers last) c.keep_others.ensures (ends c)

pub set_back-requires : goal.set_back-requires
set_back-requires c =
    let same = c.self.invariant.sound.as_many in
    let committed = ap (length {A = ℕ}) c.deref.ensures.value in
    let last = ap (length {A = ℕ}) c.deref_mut.ensures.value in
    let all : length c.args.gone.now ≡ length c.self.inside.committed.items =
    c.requires ∙ ap (λ (t : Table). length t.committed) (sym c.self.view_is) in
    record { committed = omega arith; gone = omega arith }

pub invariant_of-self : goal.invariant_of-self
unfolding left
invariant_of-self c =
    let all : length c.args.gone.now ≡ length c.self.inside.committed.items =
    c.requires ∙ ap (λ (t : Table). length t.committed) (sym c.self.view_is) in
    record {
      sound = subst IsSound (sym (whole c)) (sound_reset c.args.gone.now (table_of c.self.inside) all c.self.invariant.sound);
      places = c.list_unmarked.ensures.places;
      places_fit = omega (
        arith,
        ap (λ (a : Answers). a.room) c.keep_others.ensures,
        c.list_unmarked.ensures.capacity,
        c.self.invariant.places_fit,
      );
      numbered = c.self.invariant.numbered;
    }

pub returns : goal.returns
unfolding left
returns c = whole c ∙ ap (without_rows c.args.gone.now) c.self.view_is
