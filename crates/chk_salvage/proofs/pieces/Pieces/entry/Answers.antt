use Rattle.std.proofs.Common.{◌≡◌, ◌+◌, ◌++◌, drop, inl, inr, refl, sym, ap, subst, ◌∙◌}
use Rattle.chk_seqfile.specs.Entries.{Damaged, entry_at, record_entry, size_of_record}
use Rattle.chk_salvage.specs.Longs.{IsLong, NotLong}
use Rattle.chk_salvage.proofs.FeedLemmas.{stepped_long, stepped_record, stepped_more, stepped_damaged}
use Rattle.chk_salvage.proofs.pieces.Pieces.entry.Goals as goal

pub returns-in-Some-clause-step : goal.returns-in-Some-clause-step
returns-in-Some-clause-step c =
    let self = c.args.self.now in
    stepped_long self c.args.marker.now c.in-Some.size c.requires.marker self.within
    (subst (λ b. IsLong self.limit b self.used c.in-Some.size) c.deref.ensures.value c.in-Some.ensures.some)

pub returns-in-Record-clause-step : goal.returns-in-Record-clause-step
returns-in-Record-clause-step c =
    let self = c.args.self.now in
    let key = c.in-Record.key.now in
    let value = c.in-Record.value.now in
    stepped_record self _ c.args.marker.now key value c.requires.marker c.requires.marker refl refl refl refl self.within
    (ap (λ b. entry_at c.args.marker.now (drop self.used b)) (sym c.deref-2.ensures.value) ∙ sym c.in-Record.ensures.entry)
    c.in-Record.ensures.stands.0
    (subst (λ b. drop self.used b ≡ record_entry key value ++ drop (self.used + size_of_record key value) b) c.deref-2.ensures.value c.in-Record.ensures.stands.1)
    (subst (λ b. NotLong self.limit b self.used) c.deref.ensures.value c.in_default.ensures.none)

pub returns-in-Nothing-clause-step : goal.returns-in-Nothing-clause-step
returns-in-Nothing-clause-step c =
    let self = c.args.self.now in
    stepped_more self c.args.marker.now c.requires.marker self.within self.bounded
    (inl (ap (λ b. entry_at c.args.marker.now (drop self.used b)) (sym c.deref-2.ensures.value) ∙ sym c.in-Nothing.ensures.entry))
    (subst (λ b. NotLong self.limit b self.used) c.deref.ensures.value c.in_default.ensures.none)

pub returns-in-Torn-clause-step : goal.returns-in-Torn-clause-step
returns-in-Torn-clause-step c =
    let self = c.args.self.now in
    let marker = c.args.marker.now in
    stepped_more self marker c.requires.marker self.within self.bounded
    (inr (ap (λ b. entry_at marker (drop self.used b)) (sym c.deref-2.ensures.value) ∙ sym c.in-Damaged.ensures.entry ∙ ap Damaged c.in-Torn.is))
    (subst (λ b. NotLong self.limit b self.used) c.deref.ensures.value c.in_default.ensures.none)

pub returns-in_default-why : goal.returns-in_default-why
returns-in_default-why c =
    let self = c.args.self.now in
    let marker = c.args.marker.now in
    record {
      lies = tt;
      step = stepped_damaged self marker c.in-Damaged.why c.requires.marker self.within
          (ap (λ b. entry_at marker (drop self.used b)) (sym c.deref-2.ensures.value) ∙ sym c.in-Damaged.ensures.entry)
          c.in_default-why.not-Torn (subst (λ b. NotLong self.limit b self.used) c.deref.ensures.value c.in_default.ensures.none);
    }
