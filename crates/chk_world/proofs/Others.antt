-- A legal step of another process keeps the invariant.
use Rattle.std.proofs.Common.{◌≡◌, ℕ, Bool, true, false, ◌&&◌, not, List, [], Option, Some, None, option_map, ap, sym, subst, ◌∙◌, if◌then◌else◌, refl, bytes_eq, true≢false}
use Rattle.std.specs.Prelude.{IsTrue}
use Rattle.std.proofs.lemmas.Bool.{and_parts}
use Rattle.chk_bytes.specs.Stems.{Stem}
use Rattle.chk_site.specs.declared.acts.Role.{Role}
use Rattle.chk_site.specs.declared.acts.Role.TheVariants.{Agent, Collector, Job, Writer}
use Rattle.chk_site.specs.declared.acts.Who.{Who}
use Rattle.chk_site.specs.declared.acts.ActAnswer.{ActAnswer}
use Rattle.chk_site.specs.declared.acts.ActAnswer.TheVariants.{Done}
use Rattle.chk_site.specs.Files.{File, Files, Grown, made, grown, secured, shortened}
use Rattle.chk_site.specs.Acts.{Deed, Starts, ReadsLog, AsksNewest, GrowsLog, Creates, Appends, Syncs, Renames, Removes, Cuts, AsksSize, Reads, Lists, AsksClock, Pauses, Sends, Gets, Takes, TakesMore, Answers, Says, change_of, same_role, same_who}
use Rattle.chk_world.specs.Names.{Name, BornFile, SinkFile, MarkFile, DoneFile, CheckFile, BookFile, SegmentFile, Temporary, OtherFile, read, file, owns, owns_by}
use Rattle.chk_world.specs.Rules.{Framed, is_fixed, may_remove}
use Rattle.chk_world.specs.Laws.{collector, piece_to, written_by}
use Rattle.chk_world.proofs.Ends.{bytes_same, bytes_self}
use Rattle.chk_world.proofs.NameTests.{same_name, Named, name_same, named, applied, Drops, moved_named}
use Rattle.chk_world.proofs.Outcomes.{CameTo, whole, nothing, junk}
use Rattle.chk_world.proofs.Invariant.{Seen, Inv, was_taken}
use Rattle.chk_world.proofs.Own.{InvAt}
use Rattle.chk_world.proofs.OwnSteps.{Known, at_change, at_nothing, at_same}

-- who owns one of a sink's files is its collector
sink_owner : (role : Role) (name c : List ℕ) (x : Stem) → c ≡ x.collector → owns_by role name (SinkFile x) ≡ true → same_role Collector role && bytes_eq c name ≡ true
sink_owner Collector name c x is h = ap (bytes_eq c) (bytes_same name x.collector h ∙ sym is) ∙ bytes_self c
sink_owner Agent name c x is h = absurd (true≢false (sym h))
sink_owner Job name c x is h = absurd (true≢false (sym h))
sink_owner Writer name c x is h = absurd (true≢false (sym h))

mark_owner : (role : Role) (name c : List ℕ) (x : Stem) → c ≡ x.collector → owns_by role name (MarkFile x) ≡ true → same_role Collector role && bytes_eq c name ≡ true
mark_owner Collector name c x is h = ap (bytes_eq c) (bytes_same name x.collector h ∙ sym is) ∙ bytes_self c
mark_owner Agent name c x is h = absurd (true≢false (sym h))
mark_owner Job name c x is h = absurd (true≢false (sym h))
mark_owner Writer name c x is h = absurd (true≢false (sym h))

done_owner : (role : Role) (name c : List ℕ) (x : Stem) → c ≡ x.collector → owns_by role name (DoneFile x) ≡ true → same_role Collector role && bytes_eq c name ≡ true
done_owner Collector name c x is h = ap (bytes_eq c) (bytes_same name x.collector h ∙ sym is) ∙ bytes_self c
done_owner Agent name c x is h = absurd (true≢false (sym h))
done_owner Job name c x is h = absurd (true≢false (sym h))
done_owner Writer name c x is h = absurd (true≢false (sym h))

born_owner : (role : Role) (name c : List ℕ) → owns_by role name (BornFile c) ≡ true → same_role Collector role && bytes_eq c name ≡ true
born_owner Collector name c h = ap (bytes_eq c) (bytes_same name c h) ∙ bytes_self c
born_owner Agent name c h = absurd (true≢false (sym h))
born_owner Job name c h = absurd (true≢false (sym h))
born_owner Writer name c h = absurd (true≢false (sym h))

module _ (x : Stem) (who : Who) (other : same_who (collector x) who ≡ false) where
  apart_by : (n m : Name) → (IsTrue (owns who n) → IsTrue (same_who (collector x) who)) → (same_name n m ≡ true → IsTrue (owns who n)) → same_name n m ≡ false
  apart_by n m owner mine = go (same_name n m) refl
    where
      go : (b : Bool) → same_name n m ≡ b → b ≡ false
      go true e = absurd (true≢false (sym (owner (mine e)) ∙ other))
      go false e = refl

  owned_as : (n m : Name) → IsTrue (owns who m) → same_name n m ≡ true → IsTrue (owns who n)
  owned_as n m h e = subst (λ k. IsTrue (owns who k)) (sym (name_same n m e)) h

  -- a name is none of the sink's files
  pub record IsAway (m : Name) : Type 0 where
    pub sink : same_name (SinkFile x) m ≡ false
    pub mark : same_name (MarkFile x) m ≡ false
    pub done : same_name (DoneFile x) m ≡ false
    pub born : same_name (BornFile x.collector) m ≡ false

  pub away : (m : Name) → IsTrue (owns who m) → IsAway m
  away m h = record {
    sink = apart_by (SinkFile x) m (sink_owner who.role who.name x.collector x refl) (owned_as (SinkFile x) m h);
    mark = apart_by (MarkFile x) m (mark_owner who.role who.name x.collector x refl) (owned_as (MarkFile x) m h);
    done = apart_by (DoneFile x) m (done_owner who.role who.name x.collector x refl) (owned_as (DoneFile x) m h);
    born = apart_by (BornFile x.collector) m (born_owner who.role who.name x.collector) (owned_as (BornFile x.collector) m h);
  }

  -- a change of a file that is none of them
  mapped : (s : Seen) (files : Named) (m : Name) (g : Option File → Option File) → IsAway m → InvAt x s files
      → InvAt x s (λ n. if same_name n m then g (files n) else files n)
  mapped s files m g a inv =
      at_same x s (λ n. if same_name n m then g (files n) else files n) files
      (ap (λ b. if b then g (files (SinkFile x)) else files (SinkFile x)) a.sink)
      (ap (λ b. if b then g (files (MarkFile x)) else files (MarkFile x)) a.mark)
      (ap (λ b. if b then g (files (DoneFile x)) else files (DoneFile x)) a.done)
      (ap (λ b. if b then g (files (BornFile x.collector)) else files (BornFile x.collector)) a.born) inv

  renamed : (s : Seen) (files : Named) (old new : Name) (t : Option File) → IsAway old → IsAway new → InvAt x s files → InvAt x s (moved_named t old new files)
  renamed s files old new None a b inv = inv
  renamed s files old new (Some f) a b inv =
      at_same x s (moved_named (Some f) old new files) files
      (two (SinkFile x) a.sink b.sink) (two (MarkFile x) a.mark b.mark) (two (DoneFile x) a.done b.done) (two (BornFile x.collector) a.born b.born) inv
    where
      two : (n : Name) → same_name n old ≡ false → same_name n new ≡ false → (if same_name n new then Some f else if same_name n old then None else files n) ≡ files n
      two n p q = ap (λ b. if b then Some f else if same_name n old then None else files n) q ∙ ap (λ b. if b then None else files n) p

  -- a removal: of none of them, or of the done sink
  removed : (s : Seen) (files : Named) (m : Name) → IsTrue (may_remove who m) → InvAt x s files → InvAt x s (applied (Drops m) files)
  removed s files m may inv =
      at_same x s (applied (Drops m) files) (λ n. if is_done_of n then dropped n else files n)
      (none (SinkFile x) (apart_by (SinkFile x) m (sink_owner who.role who.name x.collector x refl) (λ e. (and_parts (owns who (SinkFile x)) true (carried (SinkFile x) e)).0)))
      (none (MarkFile x) (apart_by (MarkFile x) m (mark_owner who.role who.name x.collector x refl) (λ e. carried (MarkFile x) e)))
      refl
      (none (BornFile x.collector) (not_born (same_name (BornFile x.collector) m) refl))
      (done_gone (same_name (DoneFile x) m))
    where
      carried : (n : Name) → same_name n m ≡ true → IsTrue (may_remove who n)
      carried n e = subst (λ k. IsTrue (may_remove who k)) (sym (name_same n m e)) may

      dropped : Name → Option File
      dropped n = if same_name n m then None else files n

      is_done_of : Name → Bool
      is_done_of (DoneFile y) = true
      is_done_of n = false

      none : (n : Name) → same_name n m ≡ false → (if same_name n m then None else files n) ≡ files n
      none n e = ap (λ b. if b then None else files n) e

      not_born : (b : Bool) → same_name (BornFile x.collector) m ≡ b → b ≡ false
      not_born true e = absurd (true≢false (sym (and_parts (owns who (BornFile x.collector)) false (carried (BornFile x.collector) e)).1))
      not_born false e = refl

      done_gone : (b : Bool) → Inv x s (files (SinkFile x)) (files (MarkFile x)) (if b then None else files (DoneFile x)) (files (BornFile x.collector))
      done_gone true = was_taken x s (files (SinkFile x)) (files (MarkFile x)) (files (DoneFile x)) (files (BornFile x.collector)) inv
      done_gone false = inv

  -- another's call that took place
  others_whole : (call : Deed) (files : Files) (s : Seen) → Framed who files call → InvAt x s (λ n. file files n) → InvAt x s (applied (named (change_of call)) (λ n. file files n))
  others_whole (Creates w) files s framed inv = mapped s (λ n. file files n) (read w) made (away (read w) (and_parts (owns who (read w)) (not (is_fixed (read w))) framed).0) inv
  others_whole (Appends w piece) files s framed inv = mapped s (λ n. file files n) (read w) (option_map (grown piece)) (away (read w) (and_parts (owns who (read w)) (not (is_fixed (read w))) framed).0) inv
  others_whole (Syncs w) files s framed inv = mapped s (λ n. file files n) (read w) (option_map secured) (away (read w) framed) inv
  others_whole (Renames old new) files s framed inv =
      let both = and_parts (owns who (read old)) (owns who (read new)) framed.0 in
      renamed s (λ n. file files n) (read old) (read new) (file files (read old)) (away (read old) both.0) (away (read new) both.1) inv
  others_whole (Removes w) files s framed inv = removed s (λ n. file files n) (read w) framed inv
  others_whole (Cuts w n) files s framed inv = mapped s (λ n. file files n) (read w) (option_map (shortened n)) (away (read w) (and_parts (owns who (read w)) (not (is_fixed (read w))) framed).0) inv
  others_whole Starts files s framed inv = inv
  others_whole (ReadsLog path part at max) files s framed inv = inv
  others_whole (AsksNewest path) files s framed inv = inv
  others_whole (GrowsLog path piece) files s framed inv = inv
  others_whole (AsksSize w) files s framed inv = inv
  others_whole (Reads w at max) files s framed inv = inv
  others_whole (Lists w) files s framed inv = inv
  others_whole AsksClock files s framed inv = inv
  others_whole (Pauses n) files s framed inv = inv
  others_whole (Sends m address bytes) files s framed inv = inv
  others_whole (Gets m) files s framed inv = inv
  others_whole (Takes door wait) files s framed inv = inv
  others_whole (TakesMore t) files s framed inv = inv
  others_whole (Answers t bytes) files s framed inv = inv
  others_whole (Says bytes) files s framed inv = inv

  -- whatever it came to
  pub others_came : (known : Known x) (call : Deed) (d : Bool) (before after : Files) (s : Seen) → CameTo call d before after → Framed who before call
      → InvAt x s (λ n. file before n) → InvAt x s (λ n. file after n)
  others_came known call d before after s (whole e) framed inv = at_change x known s (change_of call) before after e (others_whole call before s framed inv)
  others_came known call d before after s (nothing not_done e) framed inv = at_nothing x s before after e inv
  others_came known call d before after s (junk w piece bytes is not_done e) framed inv =
      let own = and_parts (owns who (read w)) (not (is_fixed (read w))) (subst (λ c. Framed who before c) is framed) in
      at_change x known s (Grown w bytes) before after e (mapped s (λ n. file before n) (read w) (option_map (grown bytes)) (away (read w) own.0) inv)

  piece_test : (n : Name) (piece : List ℕ) → piece_to x n piece ≡ (if same_name (SinkFile x) n then piece else [])
  piece_test (SinkFile y) piece = refl
  piece_test (BornFile c) piece = refl
  piece_test (MarkFile y) piece = refl
  piece_test (DoneFile y) piece = refl
  piece_test (CheckFile c) piece = refl
  piece_test (BookFile f) piece = refl
  piece_test (SegmentFile f k) piece = refl
  piece_test (Temporary n) piece = refl
  piece_test (OtherFile w) piece = refl

  -- another's call writes nothing to the sink
  pub others_write : (call : Deed) (answer : ActAnswer) (files : Files) → Framed who files call → written_by x call answer ≡ []
  others_write (Appends w piece) (Done words number of) files framed =
      piece_test (read w) piece ∙ ap (λ b. if b then piece else []) (away (read w) (and_parts (owns who (read w)) (not (is_fixed (read w))) framed).0).sink
  others_write call answer files framed = refl
