use Rattle.std.proofs.Common.{ℕ, ◌-◌, [], ◌∷◌, ◌++◌, length, map, refl, sym, ap, ◌∙◌}
use Rattle.std.proofs.lemmas.List.{append-nil}
use Rattle.chk_salvage.specs.Views.{placed_of}
use Rattle.chk_record_index.specs.Heads.{head_with}
use Rattle.chk_record_index.specs.HeadRows.{head_in_row}
use Rattle.chk_record_index.proofs.Records.{no_value, is_chunk}
use Rattle.chk_record_index.proofs.Rows.{known_pushed, view_pushed}
use Rattle.chk_record_index.proofs.gather.Heads.take_alike.Goals as goal

pub invariant_of-self : goal.invariant_of-self
invariant_of-self c = record {
  known = c.self.invariant.known;
  kept = c.next_of.ensures.kept c.self.inside.origins.items c.self.invariant.kept;
}

pub invariant_of-self-then-not-is_size : goal.invariant_of-self-then-not-is_size
invariant_of-self-then-not-is_size c = record {
  known = c.self.invariant.known;
  kept = c.next_of.ensures.kept c.self.inside.origins.items c.self.invariant.kept;
}

pub invariant_of-self-in_err-push : goal.invariant_of-self-in_err-push
invariant_of-self-in_err-push c = record {
  known = rw c.in_err-push.ensures.items c.self.invariant.known;
  kept = c.next_of.ensures.kept c.self.inside.origins.items c.self.invariant.kept;
}

pub invariant_of-self-2 : goal.invariant_of-self-2
invariant_of-self-2 c =
    let origins = c.self.inside.origins.items in
    let known = c.in-Some.ensures.next origins c.self.invariant.kept in record {
      known = rw c.in_ok-push.ensures.items (known_pushed origins origins c.self.inside.rows.items _ known.key
          c.self.invariant.known ([], sym (append-nil origins)) known.origin);
      kept = c.next_of.ensures.kept origins c.self.invariant.kept;
    }

pub returns-then-not-is_size-clause-ok : goal.returns-then-not-is_size-clause-ok
returns-then-not-is_size-clause-ok c =
    let found = placed_of c.args.found.now in
    let known = c.in-Some.ensures.next c.self.inside.origins.items c.self.invariant.kept in (
      no_value c.args.most found known.key known.is
          (sym (c.is_size.ensures.is known.key found.value known.start known.seq refl) ∙ c.if-not-is_size.true),
      c.self.view_is,
    )

pub returns-clause-ok : goal.returns-clause-ok
returns-clause-ok c =
    let found = placed_of c.args.found.now in
    let origins = c.self.inside.origins.items in
    let before = c.args.self.now in
    let known = c.in-Some.ensures.next origins c.self.invariant.kept in
    let head = λ (n : ℕ). head_with known.key (n - length found.value) c.args.file found.at in (
      record { key = known.key; value = found.value },
      is_chunk c.args.most found known.key known.is
          (sym (c.is_size.ensures.is known.key found.value known.start known.seq refl) ∙ c.if-not-is_size.false),
      ap (map (head_in_row origins)) c.in_ok-push.ensures.items
          ∙ (view_pushed origins origins c.self.inside.rows.items _ known.key c.self.invariant.known
          ([], sym (append-nil origins)) known.origin (sym known.seq)
          ∙ (ap (λ hs. hs ++ head c.in-Some.next.seq ∷ []) c.self.view_is
          ∙ ap (λ n. before ++ head n ∷ []) (sym known.seq))),
    )
