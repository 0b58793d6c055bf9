-- Each end that a collector named is committed, where all that is under writing is, but for sinks
-- that were given up.
use Rattle.std.proofs.Common.{◌≡◌, ◌⊎◌, inl, inr, ℕ, zero, suc, ◌≤◌, ◌<◌, Bool, true, false, not, List, [], ◌∷◌, ◌++◌, length, length-append, map, Option, Some, None, ap, sym, subst, ◌∙◌, refl, arith, if◌then◌else◌}
use Rattle.std.specs.Prelude.{IsTrue, Contains, slice_index_or, ◌==◌}
use Rattle.std.proofs.lemmas.Bool.{and_parts}
use Rattle.chk_bytes.specs.Stems.{Stem, is_stem}
use Rattle.chk_site.specs.declared.acts.Role.{Role}
use Rattle.chk_site.specs.declared.acts.Role.TheVariants.{Collector}
use Rattle.chk_site.specs.declared.acts.Who.{Who}
use Rattle.chk_site.specs.declared.acts.ActAnswer.{ActAnswer}
use Rattle.chk_site.specs.declared.acts.ActAnswer.TheVariants.{Done}
use Rattle.chk_site.specs.Files.{File}
use Rattle.chk_site.specs.Acts.{Deed, Appends, Syncs, Takes, TakesMore, Answers, deed}
use Rattle.chk_site.specs.History.{Step, History, Ever, files_after, is_by}
use Rattle.chk_chunk.specs.Keys.{Chunk, is_chunk}
use Rattle.chk_http_grammar.specs.Messages.{Ack, acks_text}
use Rattle.chk_http_grammar.proofs.Accepted.{never_both}
use Rattle.chk_http_grammar.proofs.Apart.{acks_text-same}
use Rattle.chk_world.specs.Names.{Name, SinkFile, MarkFile, DoneFile, read, file, owns, owns_by}
use Rattle.chk_world.specs.Committed.{OnFile, committed_length}
use Rattle.chk_world.specs.Collectors.{Appended, Handling, TellAll, GoodAnswer, AnswersWell, CollectorRule, size_in, appended_at, no_more_newest, with_bytes, with_answer, with_sync, with_appends, handled_after, view}
use Rattle.chk_world.specs.Rules.{Framed, RoleMay, Legal, is_fixed}
use Rattle.chk_world.specs.Laws.{wrote, written_by}
use Rattle.chk_world.specs.NamedEnds.{NamesEnd, HasNamed, gave_up, IsAllCommitted, IsReached}
use Rattle.chk_world.proofs.Ends.{bytes_same}
use Rattle.chk_world.proofs.Forms.{posted_valid}
use Rattle.chk_world.proofs.Law.{who_same}
use Rattle.chk_world.proofs.CheckpointsMove.{found}
use Rattle.chk_world.proofs.TakenChunks.{AllOf, all_one, all_map, handled_is}
use Rattle.chk_world.proofs.AppendsStand.{AllStand, Stand, appends_stand}
use Rattle.chk_world.proofs.RepliesTell.{told_are}
use Rattle.chk_world.proofs.SinksKept.{Long, StandsWhole, done_is_committed, stands_whole}

-- ---- a collector appends to its own sinks

-- the appends are to sinks of this collector
abbrev AllOwn : Who → List Appended → Type 0
AllOwn who [] = Unit {0}
AllOwn who (w ∷ ws) = (w.stem.collector ≡ who.name) × AllOwn who ws

both_own : (who : Who) (ws more : List Appended) → AllOwn who ws → AllOwn who more
    → AllOwn who (ws ++ more)
both_own who [] more all others = others
both_own who (w ∷ ws) more all others = (all.0, both_own who ws more all.1 others)

sink_own : (role : Role) (name : List ℕ) (x : Stem) → role ≡ Collector
    → owns_by role name (SinkFile x) ≡ true → x.collector ≡ name
sink_own role name x collects h =
    sym (bytes_same name x.collector (subst (λ r. owns_by r name (SinkFile x) ≡ true) collects h))

new_own : (who : Who) (n : Name) (piece : List ℕ) (end : ℕ) → who.role ≡ Collector
    → owns who n ≡ true → AllOwn who (appended_at n piece end)
new_own who (SinkFile x) piece end collects h = (sink_own who.role who.name x collects h, tt)
new_own who n piece end collects h = tt

abbrev Own : Who → Handling → Type 0
Own who h = AllOwn who h.appends

appends_own : (stamped : List (List ℕ)) (history : History) → Legal stamped history → (who : Who)
    → who.role ≡ Collector
    → AllOf (Own who) (view who history).handled
appends_own stamped [] legal who collects = tt
appends_own stamped (step ∷ history) legal who collects =
    subst (AllOf (Own who))
    (sym (handled_is who (is_by who step) (deed step.act) step.act.answer (files_after history) step.files (view who history)))
    (go (is_by who step) refl (appends_own stamped history legal.0 who collects))
  where
    mapped : (g : Handling → Handling) → ((h : Handling) → (g h).appends ≡ h.appends)
        → AllOf (Own who) (view who history).handled
        → AllOf (Own who) (map g (view who history).handled)
    mapped g same all =
        all_map (Own who) (Own who) g (λ h own. subst (AllOwn who) (sym (same h)) own) (view who history).handled all

    own : (call : Deed) (answer : ActAnswer) → Framed who (files_after history) call
        → AllOf (Own who) (view who history).handled
        → AllOf (Own who) (handled_after call answer step.files (view who history).handled)
    own (Takes door wait) (Done (bytes ∷ words) number of) framed all = (tt, mapped no_more_newest (λ h. refl) all)
    own (TakesMore t) (Done (bytes ∷ words) number of) framed all = mapped (with_bytes t bytes) (λ h. refl) all
    own (Answers t bytes) answer framed all = mapped (with_answer t) (λ h. refl) all
    own (Syncs w) answer framed all = mapped with_sync (λ h. refl) all
    own (Appends w piece) (Done words number of) framed all =
        all_map (Own who) (Own who) (with_appends (appended_at (read w) piece (size_in (step.files w))))
        (λ h o. both_own who h.appends (appended_at (read w) piece (size_in (step.files w))) o
        (new_own who (read w) piece (size_in (step.files w)) collects (and_parts (owns who (read w)) (not (is_fixed (read w))) framed).0))
        (view who history).handled all
    own call answer framed all = all

    go : (b : Bool) → is_by who step ≡ b → AllOf (Own who) (view who history).handled
        → AllOf (Own who)
        (if b then handled_after (deed step.act) step.act.answer step.files (view who history).handled else (view who history).handled)
    go true e all =
        own (deed step.act) step.act.answer
        (subst (λ w. Framed w (files_after history) (deed step.act)) (sym (who_same who step.act.who e)) legal.1.own_files) all
    go false e all = all

-- ---- what a named end is

-- the end is within what was written to a sink of this collector
record IsWritten (who : Who) (history : History) (a : Ack) : Type 0 where
  stem : IsTrue (is_stem a.stem)
  own : a.stem.collector ≡ who.name
  within : a.number ≤ length (wrote a.stem history)

told_line : (history : History) (who : Who) (chunks : List Chunk) (acks : List Ack)
    (ws : List Appended)
    → ((c : Chunk) → Contains chunks c → IsTrue (is_chunk c)) → TellAll chunks acks ws
    → AllStand history ws → AllOwn who ws
    → (a : Ack) (k : ℕ) → k < length acks → slice_index_or acks k a ≡ a → IsWritten who history a
told_line history who [] [] ws valid tells all own a k below at = absurd (let z : ⊥ = omega (arith, below) in z)
told_line history who [] (b ∷ acks) ws valid tells all own a k below at = absurd tells
told_line history who (d ∷ cs) [] ws valid tells all own a k below at = absurd tells
told_line history who (d ∷ cs) (b ∷ acks) [] valid tells all own a k below at = absurd tells
told_line history who (d ∷ cs) (b ∷ acks) (w ∷ ws) valid (inr t) all own a k below at =
    told_line history who (d ∷ cs) (b ∷ acks) ws valid t all.1 own.1 a k below at
told_line history who (d ∷ cs) (b ∷ acks) (w ∷ ws) valid (inl t) all own a zero below at =
    let within = (all.0.stands d (valid d (0, omega arith, refl)) b t.0).within in
    subst (IsWritten who history) at
    (record {
      stem = subst (λ x. IsTrue (is_stem x)) (sym t.0.stem) all.0.stem;
      own = ap (λ (x : Stem). x.collector) t.0.stem ∙ own.0;
      within =
          subst (λ n. n ≤ length (wrote b.stem history)) (sym t.0.end)
          (subst (λ x. w.end ≤ length (wrote x history)) (sym t.0.stem) within);
    })
told_line history who (d ∷ cs) (b ∷ acks) (w ∷ ws) valid (inl t) all own a (suc k) below at =
    told_line history who cs acks ws (λ c one. let j = one.1 in valid c (suc one.0, omega (arith, j), one.2)) t.1 all.1 own.1 a k
    (omega (arith, below)) at

-- a line of a good reply to a post
module _ (stamped : List (List ℕ)) (history : History) (step : Step)
    (legal : Legal stamped (step ∷ history)) (a : Ack)
    (n : NamesEnd step.act.who history step a) (collects : step.act.who.role ≡ Collector) where
  abbrev W : Who
  W = step.act.who

  abbrev Handled : List Handling
  Handled = (view step.act.who history).handled

  well : AnswersWell W history (Some n.message) n.reply
  well =
      subst (λ o. AnswersWell W history o n.reply) n.taken
      (subst (CollectorRule W history (view W history)) n.call
      (subst (λ role. RoleMay stamped role history step) collects legal.1.rule)).1

  one : Contains Handled n.message
  one = (found (λ h. h.taking == n.taking) Handled n.message n.taken).one

  named_here : IsWritten W history a
  named_here = go answer.2
    where
      answer : (others : List Ack) × (acks_text n.acks ≡ acks_text others) × GoodAnswer W history (Some n.message) others
      answer = well (acks_text n.acks) n.is_good.1

      go : GoodAnswer W history (Some n.message) answer.0 → IsWritten W history a
      go (inl p) =
          let stand = all_one (Stand history) Handled n.message (appends_stand stamped history legal.0 W) one in
          let own = all_one (Own W) Handled n.message (appends_own stamped history legal.0 W collects) one in
          let same : n.acks ≡ answer.0 =
          acks_text-same n.acks answer.0 n.is_good.0 (told_are history p.chunks answer.0 n.message.appends p.lines stand) answer.1 in
          let c = subst (λ acks. Contains acks a) same n.one in
          told_line history W p.chunks answer.0 n.message.appends
          (λ c at. posted_valid Handled c (record {
            message = n.message;
            taken = one;
            open_yet = p.open_yet;
            chunks = p.chunks;
            post = p.post;
            one = at;
          })) p.lines stand own a c.0 c.1 c.2
      go (inr p) = absurd (never_both n.post.0 p.stems n.message.bytes n.post.1 p.poll)

written_on : (who : Who) (history : History) (step : Step) (a : Ack) → IsWritten who history a
    → IsWritten who (step ∷ history) a
written_on who history step a w = record {
  stem = w.stem;
  own = w.own;
  within =
      let before = w.within in
      omega (arith, before, length-append (wrote a.stem history) (written_by a.stem (deed step.act) step.act.answer));
}

named_written : (stamped : List (List ℕ)) (history : History) → Legal stamped history → (who : Who)
    → who.role ≡ Collector → (a : Ack)
    → HasNamed who history a → IsWritten who history a
named_written stamped [] legal who collects a named = absurd named
named_written stamped (step ∷ history) legal who collects a (inr earlier) =
    written_on who history step a (named_written stamped history legal.0 who collects a earlier)
named_written stamped (step ∷ history) legal who collects a (inl n) =
    written_on who history step a
    (subst (λ w. NamesEnd w history step a → w.role ≡ Collector → IsWritten w history a) n.by
    (named_here stamped history step legal a) n collects)

-- ---- so it is committed

ever_as : (P Q : History → Type 0) → ((h : History) → P h → Q h) → (history : History)
    → Ever P history → Ever Q history
ever_as P Q weaker [] h = weaker [] h
ever_as P Q weaker (step ∷ history) (inl h) = inl (weaker (step ∷ history) h)
ever_as P Q weaker (step ∷ history) (inr h) = inr (ever_as P Q weaker history h)

long_committed : (k n c : ℕ) (o : Option File) → k ≤ n → Long n o
    → OnFile o (λ f. c ≡ length f.bytes) → k ≤ c
long_committed k n c None less long all = absurd long
long_committed k n c (Some f) less long all = omega (arith, less, long, all)

pub named_ends_are_committed : (stamped : List (List ℕ)) (history : History)
    → Legal stamped history → (who : Who) → who.role ≡ Collector
    → IsAllCommitted who.name (files_after history) → (a : Ack) → HasNamed who history a
    → IsReached history a ⊎ IsTrue (gave_up a.stem history)
named_ends_are_committed stamped history legal who collects all a named =
    go (gave_up a.stem history) refl
  where
    w : IsWritten who history a
    w = named_written stamped history legal who collects a named

    n : ℕ
    n = length (wrote a.stem history)

    reached : StandsWhole a.stem history → IsReached history a
    reached (inl none) = inl (let within = w.within in omega (arith, within, none))
    reached (inr (inl long)) =
        inl (long_committed a.number n (committed_length (files_after history) a.stem)
        (file (files_after history) (SinkFile a.stem)) w.within long (all a.stem w.stem w.own))
    reached (inr (inr (inl shut))) =
        let c = done_is_committed n (file (files_after history) (DoneFile a.stem))
        (file (files_after history) (MarkFile a.stem)) shut in
        inl (let within = w.within in omega (arith, within, c))
    reached (inr (inr (inr gone))) =
        inr (
          ever_as (λ front. length (wrote a.stem history) ≤ committed_length (files_after front) a.stem)
              (λ front. a.number ≤ committed_length (files_after front) a.stem)
              (λ front h. let within = w.within in omega (arith, within, h)) history gone.0,
          gone.1,
        )

    go : (b : Bool) → gave_up a.stem history ≡ b → IsReached history a ⊎ IsTrue b
    go true e = inr refl
    go false e = inl (reached (stands_whole stamped history legal a.stem w.stem e))
