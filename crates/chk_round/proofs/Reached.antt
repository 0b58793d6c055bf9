-- What was answered stays committed, or its sink was given up or is gone.
use Rattle.std.proofs.Common.{◌≡◌, ◌⊎◌, inl, inr, ℕ, ◌≤◌, ◌<◌, Bool, true, false, ◌&&◌, ◌||◌, nat_lt, List, [], ◌∷◌, ◌++◌, length, Option, Some, None, ap, sym, subst, ◌∙◌, refl, arith, true≢false}
use Rattle.std.specs.Prelude.{IsTrue}
use Rattle.std.proofs.lemmas.Option.{same_Some}
use Rattle.chk_bytes.specs.Stems.{Stem, is_stem}
use Rattle.chk_site.specs.declared.acts.Role.TheVariants.{Job}
use Rattle.chk_site.specs.declared.acts.Who.{Who}
use Rattle.chk_site.specs.Files.{File}
use Rattle.chk_site.specs.History.{Step, History, files_after, since_start}
use Rattle.chk_site.specs.Messages.{Message}
use Rattle.chk_chunk.specs.Keys.{Chunk}
use Rattle.chk_http_grammar.specs.Messages.{Ack, WrittenPost}
use Rattle.chk_world.specs.Answering.{IsAnswered}
use Rattle.chk_world.specs.Committed.{OnFile, committed_length, committed_of}
use Rattle.chk_world.specs.DoneSinks.{IsGone}
use Rattle.chk_world.specs.Jobs.{IsSaved}
use Rattle.chk_world.specs.Laws.{wrote}
use Rattle.chk_world.specs.NamedEnds.{IsAllCommitted, gave_up, gives_up}
use Rattle.chk_world.specs.Names.{SinkFile, MarkFile, DoneFile, file}
use Rattle.chk_world.specs.Rules.{Legal}
use Rattle.chk_world.proofs.GotReplies.{got_tells}
use Rattle.chk_world.proofs.KeptChunks.{Persists, at_done, at_sink, IsHeld, on_done, on_sink, stays_held, was_saved}
use Rattle.chk_world.proofs.Law.{shape}
use Rattle.chk_world.proofs.SentMessages.{sent_as}
use Rattle.chk_world.proofs.SightStays.{done_sinks_stay}
use Rattle.chk_world.proofs.SinksKept.{Long, shut_or_gone, stands_whole}
use Rattle.chk_sink.specs.Least.{EachFront}

-- where an answer names a place, so many bytes were written to the sink
pub answered_within : (stamped : List (List ℕ)) (history : History) → Legal stamped history → (who : Who) (c : Chunk) (ack : Ack)
    → IsAnswered (since_start who history) c ack → IsTrue (is_stem ack.stem) × (ack.number ≤ length (wrote ack.stem history))
answered_within stamped history legal who c ack a =
    let t = got_tells stamped history legal who a.post a.acks a.reply a.is_good a.replied in
    let s = sent_as stamped history legal who a.posted.step a.posted.one a.post a.address a.sent_bytes a.posted.call in
    let same : a.sent_bytes ≡ t.m.bytes = sym s.same ∙ ap (λ (m : Message). m.bytes) (same_Some s.m t.m (sym s.is ∙ t.is)) in
    let line = t.of_post a.acks a.is_good a.address a.chunks (subst (WrittenPost a.address a.chunks) same a.is_post) c ack a.line in
    (line.stem, line.stands.within)

pub gave_early : (x : Stem) (added history : History) → gave_up x (added ++ history) ≡ false → gave_up x history ≡ false
gave_early x [] history e = e
gave_early x (step ∷ added) history e =
    gave_early x added history
    (right (nat_lt 0 (length (wrote x (added ++ history))) && gives_up x step) (gave_up x (added ++ history)) e)
  where
    right : (a b : Bool) → (a || b) ≡ false → b ≡ false
    right false b e = e
    right true b e = absurd (true≢false e)

module _ (stamped : List (List ℕ)) (x : Stem) (known : IsTrue (is_stem x)) where
  pub gone_on : (added history : History) → Legal stamped (added ++ history) → IsGone history x → IsGone (added ++ history) x
  gone_on [] history legal gone = gone
  gone_on (step ∷ added) history legal gone =
      (done_sinks_stay stamped (added ++ history) step legal x known).gone (gone_on added history legal.0 gone)

  module _ (k : ℕ) (some : 0 < k) where
    -- so many bytes are committed, and the sink is there
    pub record IsHere (history : History) : Type 0 where
      pub reached : k ≤ committed_length (files_after history) x
      pub there : ((f : File) × (file (files_after history) (SinkFile x) ≡ Some f))
          ⊎ ((f : File) × (file (files_after history) (DoneFile x) ≡ Some f))

    held_of : (s m d : Option File) → 0 < committed_of d m → ((f : File) × (s ≡ Some f)) ⊎ ((f : File) × (d ≡ Some f))
        → IsHeld s m d (committed_of d m)
    held_of s m (Some f) more there = at_done f refl refl
    held_of s None None more there = absurd (let z : ⊥ = omega arith in z)
    held_of s (Some g) None more (inl there) = at_sink there.0 g refl there.1 refl refl
    held_of s (Some g) None more (inr there) = absurd (cc)

    here_on : (history : History) (step : Step) → Legal stamped (step ∷ history) → IsHere history
        → IsHere (step ∷ history) ⊎ IsGone (step ∷ history) x
    here_on history step legal h =
        go (stays_held stamped history step legal.1 x n (shape stamped history legal.0 x known) known
        (held_of (file (files_after history) (SinkFile x)) (file (files_after history) (MarkFile x)) D
        (let r = h.reached in omega (arith, r, some)) h.there))
      where
        n : ℕ
        n = committed_length (files_after history) x

        D : Option File
        D = file (files_after history) (DoneFile x)

        go : Persists ((f : File) × (D ≡ Some f) × (step.act.who.role ≡ Job) × IsSaved history f)
            (file step.files (SinkFile x)) (file step.files (MarkFile x)) (file step.files (DoneFile x)) n
            → IsHere (step ∷ history) ⊎ IsGone (step ∷ history) x
        go (on_sink f e le) = inl (record { reached = let r = h.reached in omega (arith, r, le); there = inl (f, e) })
        go (on_done f e le) = inl (record { reached = let r = h.reached in omega (arith, r, le); there = inr (f, e) })
        go (was_saved p) = elim (shut_or_gone stamped history step legal x known p.0 p.1) [
          | inl still ↦
              let before : n ≡ length p.0.bytes = ap (λ o. committed_of o (file (files_after history) (MarkFile x))) p.1 in
              let behind : committed_length step.files x ≡ length p.0.bytes = ap (λ o. committed_of o (file step.files (MarkFile x))) still in
              inl (record { reached = let r = h.reached in omega (arith, r, before, behind); there = inr (p.0, still) })
          | inr gone ↦ inr ((done_sinks_stay stamped history step legal x known).goes p.0 p.1 gone)
        ]

    pub here_all : (added history : History) → Legal stamped (added ++ history) → IsHere history
        → (EachFront (λ h. k ≤ committed_length (files_after h) x) added history × IsHere (added ++ history))
        ⊎ IsGone (added ++ history) x
    here_all [] history legal h = inl (h.reached, h)
    here_all (step ∷ added) history legal h = elim (here_all added history legal.0 h) [
      | inl each ↦ elim (here_on (added ++ history) step legal each.1) [
        | inl more ↦ inl ((each.0, more.reached), more)
        | inr gone ↦ inr gone
      ]
      | inr gone ↦ inr ((done_sinks_stay stamped (added ++ history) step legal x known).gone gone)
    ]

    -- where all is committed, what was written is
    pub here_at : (history : History) → Legal stamped history → k ≤ length (wrote x history)
        → IsAllCommitted x.collector (files_after history) → gave_up x history ≡ false
        → IsHere history ⊎ IsGone history x
    here_at history legal within all kept = elim (stands_whole stamped history legal x known kept) [
      | inl none ↦ absurd (let z : ⊥ = omega (arith, some, within, none) in z)
      | inr (inl long) ↦ inl (sink_at (file (files_after history) (SinkFile x)) refl long (all x known refl))
      | inr (inr (inl shut)) ↦ inl (done_at (file (files_after history) (DoneFile x)) refl shut)
      | inr (inr (inr gone)) ↦ inr gone.1
    ]
      where
        sink_at : (o : Option File) → file (files_after history) (SinkFile x) ≡ o → Long (length (wrote x history)) o
            → OnFile o (λ f. committed_length (files_after history) x ≡ length f.bytes) → IsHere history
        sink_at None e long is = absurd long
        sink_at (Some f) e long is = record { reached = omega (arith, within, long, is); there = inl (f, e) }

        done_at : (o : Option File) → file (files_after history) (DoneFile x) ≡ o → Long (length (wrote x history)) o → IsHere history
        done_at None e long = absurd long
        done_at (Some f) e long =
            let is : committed_length (files_after history) x ≡ length f.bytes =
            ap (λ o. committed_of o (file (files_after history) (MarkFile x))) e in
            record { reached = omega (arith, within, long, is); there = inr (f, e) }
