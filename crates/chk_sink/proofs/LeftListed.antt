-- The listing of the folder of sinks.
use Rattle.std.proofs.Common.{◌≡◌, ℕ, zero, suc, ◌<◌, true, false, ◌&&◌, ◌||◌, List, [], ◌∷◌, ◌++◌, length, append_assoc, Option, Some, None, Result, Ok, ap, sym, subst, ◌∙◌, refl, arith, true≢false}
use Rattle.std.specs.Prelude.{IsTrue, IsSome, Contains, codes, slice_index_or}
use Rattle.std.specs.List.{list_any}
use Rattle.std.proofs.lemmas.Bool.{or_right}
use Rattle.chk_bytes.specs.Stems.{Stem, is_stem, stem_text}
use Rattle.chk_bytes.specs.Words.{before_end}
use Rattle.chk_bytes.proofs.StemLemmas.{read_stem-stem_text}
use Rattle.chk_site.specs.declared.acts.Call.TheVariants.{List as ListNames}
use Rattle.chk_site.specs.declared.acts.CallFault.{CallFault}
use Rattle.chk_site.specs.declared.acts.ActAnswer.{ActAnswer}
use Rattle.chk_site.specs.Files.{File, Files, changed}
use Rattle.chk_site.specs.Acts.{Lists, Appends, deed, change_of, is_done}
use Rattle.chk_site.specs.History.{Step, History, files_after}
use Rattle.chk_site.specs.Honest.{Honest, Gives, IsListing, in_folder}
use Rattle.chk_site.specs.Site.{Adds, Asked, asked, own_step, answered, names_given, Calls}
use Rattle.chk_site.specs.Runs.{Leads}
use Rattle.chk_world.specs.Names.{Name, SinkFile, MarkFile, spell, file}
use Rattle.chk_world.specs.Committed.{IsAbsent}
use Rattle.chk_world.specs.Places.{As, AtTold}
use Rattle.chk_world.proofs.Ends.{before_end-append, before_end-other}
use Rattle.chk_world.proofs.NameTests.{stem_self}
use Rattle.chk_world.proofs.Outcomes.{CameTo, whole, nothing, junk, leaves}
use Rattle.chk_world.proofs.ToldCalls.{GoesOn, MayCall, LeavesCall, came_on, told_ok}
use Rattle.chk_world.proofs.CollectorCalls.{own_sight, collector_rule}
use Rattle.chk_world.proofs.CompleteRuns.{CanBeListed, can_be_listed, sink_name}
use Rattle.chk_sink.specs.States.{State, process}
use Rattle.chk_sink.specs.Held.{Holds, Matches}
use Rattle.chk_sink.specs.Settling.{IsSettling, is_same, stem_of_either, left_in, left_of, IsGone, HoldsBut}
use Rattle.chk_sink.proofs.Holding.{holds_alike, holds_stays, both_absent}
use Rattle.chk_sink.proofs.LeftCalls.{told_any}

-- ---- the names tell of their stems

sink_told : (x : Stem) → IsTrue (is_stem x) → left_in (stem_text x ++ codes ".chukwa") ≡ Some x
sink_told x good =
    ap (λ o. stem_of_either o (before_end (codes ".mark") (stem_text x ++ codes ".chukwa"))) (before_end-append (stem_text x) (codes ".chukwa"))
    ∙ read_stem-stem_text x good

mark_told : (x : Stem) → IsTrue (is_stem x) → left_in (stem_text x ++ codes ".mark") ≡ Some x
mark_told x good =
    let w = stem_text x ++ codes ".mark" in
    ap (λ o. stem_of_either o (before_end (codes ".mark") w))
    (before_end-other (codes ".chukw") 97 (stem_text x ++ codes ".mar") 107 w (sym (append_assoc (stem_text x) (codes ".mar") (107 ∷ []))) refl)
    ∙ (ap (stem_of_either None) (before_end-append (stem_text x) (codes ".mark")) ∙ read_stem-stem_text x good)

any_told : (names : List (List ℕ)) (name : List ℕ) (x : Stem) → Contains names name → left_in name ≡ Some x
    → list_any (λ n. is_same (left_in n) x) names ≡ true
any_told [] name x h e = absurd (let z : ⊥ = omega (arith, h.1) in z)
any_told (n ∷ names) name x h e = go h.0 h.1 h.2 (λ k. any_told names name x k e)
  where
    go : (k : ℕ) → k < length (n ∷ names) → slice_index_or (n ∷ names) k name ≡ name
        → (Contains names name → list_any (λ n. is_same (left_in n) x) names ≡ true) → (is_same (left_in n) x || list_any (λ n. is_same (left_in n) x) names) ≡ true
    go zero less is more =
        ap (λ b. b || list_any (λ n. is_same (left_in n) x) names)
        (ap (λ m. is_same (left_in m) x) is ∙ (ap (λ f. is_same f x) e ∙ stem_self x))
    go (suc k) less is more = or_right (is_same (left_in n) x) (list_any (λ n. is_same (left_in n) x) names) (more (k, omega (arith, less), is))

-- a file of a stem that the listing doesn't tell of isn't there
unlisted : (files : Files) (names : List (List ℕ)) (x : Stem) (name : List ℕ) (n : Name) → IsListing files (codes "sinks") names
    → CanBeListed name → left_in name ≡ Some x → spell n ≡ in_folder (codes "sinks") name
    → left_of names None x ≡ false → IsAbsent (file files n)
unlisted files names x name n listing can is spelled none = go (file files n) refl
  where
    go : (o : Option File) → file files n ≡ o → IsAbsent o
    go None e = tt
    go (Some f) e =
        let found = any_told names name x ((listing.each name).1 (can, subst IsSome (sym (ap files (sym spelled) ∙ e)) refl)) is in
        absurd (true≢false (sym (ap (λ b. b && true) found) ∙ none))

mark_name : (x : Stem) → spell (MarkFile x) ≡ in_folder (codes "sinks") (stem_text x ++ codes ".mark")
unfolding spell
mark_name x = refl

gone_unlisted : (files : Files) (names : List (List ℕ)) (x : Stem) → IsTrue (is_stem x) → IsListing files (codes "sinks") names
    → left_of names None x ≡ false → IsGone x files
gone_unlisted files names x good listing none = (
  unlisted files names x (stem_text x ++ codes ".chukwa") (SinkFile x) listing (can_be_listed x good (codes ".chukwa") refl refl (omega arith))
      (sink_told x good) (sink_name x) none,
  unlisted files names x (stem_text x ++ codes ".mark") (MarkFile x) listing (can_be_listed x good (codes ".mark") refl refl (omega arith))
      (mark_told x good) (mark_name x) none,
)

-- ---- the call

-- a listing leaves the files, whatever it answers but a stop
file_listed : (before : History) (step : Step) (folder : List ℕ) (n : Name) → Honest before step → GoesOn step.act.answer → deed step.act ≡ Lists folder
    → file step.files n ≡ file (files_after before) n
file_listed before step folder n honest goes is =
    let e = honest.modelled.effect in
    came
    (came_on (deed step.act) step.act.answer (files_after before) step.files goes
    (leaves (deed step.act) step.act.answer (files_after before) step.files e.did e.may e.files_left))
  where
    came : CameTo (deed step.act) (is_done step.act.answer) (files_after before) step.files → file step.files n ≡ file (files_after before) n
    came (whole e) = e (spell n) ∙ ap (λ c. changed (change_of c) (files_after before) (spell n)) is
    came (nothing not_yet e) = e (spell n)
    came (junk w piece bytes was not_yet e) = absurd (let x : Lists folder ≡ Appends w piece = sym is ∙ was in cc)

module _ (stamped : List (List ℕ)) (s : State) (who : _) (settles : IsSettling s who) where
  abbrev L : Asked
  L = asked (process s) ListNames (codes "sinks" ∷ []) 0 0

  list_may : MayCall stamped L settles.named (Holds s)
  list_may before answer files logs legal h = record {
    own_files = tt;
    logs = tt;
    requests = tt;
    rule = collector_rule stamped (process s) before (own_step L answer files logs) (Lists (codes "sinks")) refl refl refl tt;
  }

  same_file : (before : History) (answer : ActAnswer) (files : _) (logs : _) → GoesOn answer → Honest before (own_step L answer files logs)
      → (n : Name) → file files n ≡ file (files_after before) n
  same_file before answer files logs goes honest n = file_listed before (own_step L answer files logs) (codes "sinks") n honest goes refl

  list_any_answer : LeavesCall stamped L settles.named (Holds s) GoesOn (Holds s)
  list_any_answer before answer files logs goes legal h =
      holds_alike s before (own_step L answer files logs ∷ before) settles.good
      (record {
        sight = own_sight (process s) before (own_step L answer files logs) refl goes;
        sinks = λ x own good. same_file before answer files logs goes legal.1.honest (SinkFile x);
        marks = λ x own good. same_file before answer files logs goes legal.1.honest (MarkFile x);
      }) h

  module _ (names : List (List ℕ)) where
    list_leaves : LeavesCall stamped L settles.named (Holds s) (λ a. a ≡ names_given names) (HoldsBut s (left_of names None))
    list_leaves before answer files logs is legal h =
        let goes = subst GoesOn (sym is) tt in
        let honest = legal.1.honest in
        let listing : IsListing (files_after before) (codes "sinks") names =
        subst (λ a. Gives a (λ words number of. IsListing (files_after before) (codes "sinks") words)) is honest.agrees in
        record {
          holds = list_any_answer before answer files logs goes legal h;
          others = λ y o m.
              both_absent (same_file before answer files logs goes honest (SinkFile y)) (same_file before answer files logs goes honest (MarkFile y))
              (gone_unlisted (files_after before) names y o.stem listing m);
        }

    -- the folder was listed
    pub listed : {V : Type 0} (how : V → List (List ℕ)) (given : Result V CallFault) (value : V) → given ≡ Ok value → how value ≡ names → {old new : Option History}
        → Adds old new (Calls L (answered (λ v. names_given (how v)) given))
        → Adds old new (Leads (As stamped (process s)) (Matches stamped s) (AtTold stamped (process s) (HoldsBut s (left_of names None))))
    listed how given value e f {old = old} {new = new} told =
        told_ok stamped L settles.named (Holds s) (HoldsBut s (left_of names None)) (names_given names) (holds_stays stamped s settles.good) list_may tt list_leaves
        (subst (λ a. Adds old new (Calls L (Ok a))) (ap names_given f)
        (subst (λ g. Adds old new (Calls L (answered (λ v. names_given (how v)) g))) e told))

  -- whatever it answered
  pub list_tried : {V : Type 0} (how : V → List (List ℕ)) (given : Result V CallFault) {old new : Option History}
      → Adds old new (Calls L (answered (λ v. names_given (how v)) given))
      → Adds old new (Leads (As stamped (process s)) (Matches stamped s) (Matches stamped s))
  list_tried how given told =
      told_any stamped L settles.named (Holds s) (Holds s) (λ v. names_given (how v)) given (holds_stays stamped s settles.good) list_may (λ v. tt) list_any_answer
      (λ h x. x) told
