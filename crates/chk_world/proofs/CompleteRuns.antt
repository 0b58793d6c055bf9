-- A complete run takes all that was kept at its listing.
use Rattle.std.proofs.Common.{◌≡◌, ◌⊎◌, inl, inr, ℕ, zero, suc, ◌<◌, ◌≤◌, ◌^◌, Bool, true, false, ◌&&◌, ◌||◌, not, List, [], ◌∷◌, ◌++◌, length, length-append, take, Some, is_some, ap, sym, subst, ◌∙◌, refl, arith, true≢false, if◌then◌else◌, cond, bytes_eq}
use Rattle.std.specs.Prelude.{IsTrue, IsSome, Contains, Any, codes, decimal, slice_index_or, count_by, flat_map, ◌==◌}
use Rattle.std.specs.List.{list_any, list_all}
use Rattle.std.specs.Char.{is_ascii_digit}
use Rattle.std.proofs.lemmas.Bool.{and_parts, and_from, cases_lt}
use Rattle.std.proofs.lemmas.Fmt.{digits_decimal}
use Rattle.std.proofs.lemmas.List.{take_all}
use Rattle.std.proofs.lemmas.List.Sums.{sum_by-cons}
use Rattle.std.proofs.lemmas.List.Elements.{Contains-append_left, Contains-append_right}
use Rattle.std.proofs.lemmas.Option.{same_Some, none-some}
use Rattle.chk_bytes.specs.Stems.{Stem, is_stem, is_stem_letter, stem_text}
use Rattle.chk_bytes.specs.Words.{is_word}
use Rattle.chk_bytes.proofs.DecimalLemmas.{all_digits}
use Rattle.chk_bytes.proofs.StemLemmas.{stem_facts, stem_text_plain, length-stem_text}
use Rattle.chk_bytes.proofs.WordLemmas.{is_plain_byte, plain_word, plain-append}
use Rattle.chk_site.specs.declared.acts.Role.TheVariants.{Job}
use Rattle.chk_site.specs.declared.acts.ActAnswer.{ActAnswer}
use Rattle.chk_site.specs.declared.acts.ActAnswer.TheVariants.{Done}
use Rattle.chk_site.specs.Files.{File, changed}
use Rattle.chk_site.specs.Acts.{Deed, Lists, deed, change_of, same_role}
use Rattle.chk_site.specs.History.{Step, History, files_after}
use Rattle.chk_site.specs.Honest.{Agrees, IsListing, in_folder}
use Rattle.chk_chunk.specs.Keys.{Stream, Chunk, Covers, chunk_limit}
use Rattle.chk_chunk.specs.Reach.{IsReach}
use Rattle.chk_world.specs.Names.{SinkFile, MarkFile, DoneFile, spell, file}
use Rattle.chk_world.specs.Checkpoints.{line_of}
use Rattle.chk_world.specs.Books.{chunks_within}
use Rattle.chk_world.specs.Streams.{founding, founded_by, start_of}
use Rattle.chk_world.specs.Committed.{sink_chunks, aside_chunks, chunks_below, committed_of, committed_length, KeptAt, archived_end}
use Rattle.chk_world.specs.ArchiveRuns.{Listing, listing_by, last_listing, is_unclosed, is_closed, unclosed_in, listed_chunks, found, end_before, end_since}
use Rattle.chk_world.specs.Rules.{Legal}
use Rattle.chk_world.specs.Laws.{IsComplete, SavedAt}
use Rattle.chk_world.proofs.Ends.{bytes_same, before_end-append}
use Rattle.chk_world.proofs.Commits.{done_tails}
use Rattle.chk_world.proofs.Segments.{start_less}
use Rattle.chk_world.proofs.KeptLaw.{sink_there}

-- ---- the names of sinks can be listed

abbrev pub is_slash : ℕ → Bool
is_slash b = b == 47

letter_no_slash : (b : ℕ) → is_stem_letter b ≡ true → is_slash b ≡ false
letter_no_slash b h = grind arith

digit_no_slash : (b : ℕ) → is_ascii_digit b ≡ true → is_slash b ≡ false
digit_no_slash b h = grind arith

none_of_all : (p : ℕ → Bool) → ((b : ℕ) → p b ≡ true → is_slash b ≡ false) → (t : List ℕ) → list_all p t ≡ true → list_any is_slash t ≡ false
none_of_all p each [] h = refl
none_of_all p each (b ∷ t) h =
    let parts = and_parts (p b) (list_all p t) h in rw (each b parts.0, none_of_all p each t parts.1) refl

none_behind : (xs ys : List ℕ) → list_any is_slash xs ≡ false → list_any is_slash ys ≡ false → list_any is_slash (xs ++ ys) ≡ false
none_behind [] ys a b = b
none_behind (x ∷ xs) ys a b = step (is_slash x) refl a (λ k. none_behind xs ys k b)
  where
    step : (v : Bool) → is_slash x ≡ v → (v || list_any is_slash xs) ≡ false
        → (list_any is_slash xs ≡ false → list_any is_slash (xs ++ ys) ≡ false) → (is_slash x || list_any is_slash (xs ++ ys)) ≡ false
    step true e h rest = absurd (true≢false h)
    step false e h rest = ap (λ v. v || list_any is_slash (xs ++ ys)) e ∙ rest h

decimal_no_slash : (n : ℕ) → n < 2 ^ 63 → list_any is_slash (decimal n) ≡ false
decimal_no_slash n small = none_of_all is_ascii_digit digit_no_slash (decimal n) (digits_decimal all_digits n (omega (arith, small)))

stem_no_slash : (x : Stem) → IsTrue (is_stem x) → list_any is_slash (stem_text x) ≡ false
stem_no_slash x known =
    let s = stem_facts x known in
    none_behind x.collector (46 ∷ (decimal x.born ++ 46 ∷ decimal x.number)) (none_of_all is_stem_letter letter_no_slash x.collector s.letters)
    (none_behind (decimal x.born) (46 ∷ decimal x.number) (decimal_no_slash x.born s.born_below) (decimal_no_slash x.number s.number_below))

-- a name that a listing of its folder can show
abbrev pub CanBeListed : List ℕ → Type 0
CanBeListed name = IsTrue (is_word name && not (list_any is_slash name))

-- a stem's name with a short ending of plain letters can be listed
pub can_be_listed : (x : Stem) → IsTrue (is_stem x) → (end : List ℕ) → list_all is_plain_byte end ≡ true → list_any is_slash end ≡ false → length end ≤ 100
    → CanBeListed (stem_text x ++ end)
can_be_listed x known end plain none short =
    let size = length-stem_text x known in
    let whole = length-append (stem_text x) end in
    and_from (is_word (stem_text x ++ end)) (not (list_any is_slash (stem_text x ++ end)))
    (plain_word (stem_text x ++ end) (plain-append (stem_text x) end (stem_text_plain x known) plain) (omega (arith, size.0, whole)) (omega (arith, size.1, whole, short)))
    (ap not (none_behind (stem_text x) end (stem_no_slash x known) none))

sink_can : (x : Stem) → IsTrue (is_stem x) → CanBeListed (stem_text x ++ codes ".chukwa")
sink_can x known = can_be_listed x known (codes ".chukwa") refl refl (omega arith)

done_can : (x : Stem) → IsTrue (is_stem x) → CanBeListed (stem_text x ++ codes ".done")
done_can x known = can_be_listed x known (codes ".done") refl refl (omega arith)

-- ---- what a listing shows

-- it shows the files of `sinks` as they were then; starts that were known then are still those
pub record Listed (stamped : List (List ℕ)) (history : History) (l : Listing) : Type 0 where
  pub legal : Legal stamped l.upto
  pub each : (name : List ℕ) → CanBeListed name → IsSome (files_after l.upto (in_folder (codes "sinks") name)) → Contains l.names name
  pub starts : (s : Stream) → start_of l.upto s ≤ start_of history s

module _ (stamped : List (List ℕ)) (history : History) (step : Step) (legal : Legal stamped (step ∷ history)) where
  earlier : (l : Listing) → Listed stamped history l → Listed stamped (step ∷ history) l
  earlier l b = record {
    legal = b.legal;
    each = b.each;
    starts = λ s.
        let then_start = b.starts s in
        let more : start_of history s ≤ start_of (step ∷ history) s = start_less (founding history s) (founded_by (line_of step.files s) (step.logs s.name)) in
        omega (arith, then_start, more);
  }

  -- the listing is made here
  now : (folder : List ℕ) (names : List (List ℕ)) (number of : ℕ) → deed step.act ≡ Lists folder → step.act.answer ≡ Done names number of
      → folder ≡ codes "sinks" → Listed stamped (step ∷ history) (record { names = names; upto = step ∷ history })
  now folder names number of call answer sinks =
      let agrees : Agrees history step.act.who (Lists folder) (Done names number of) =
      subst (λ a. Agrees history step.act.who (Lists folder) a) answer
      (subst (λ c. Agrees history step.act.who c step.act.answer) call legal.1.honest.agrees) in
      let listing : IsListing (files_after history) (codes "sinks") names = subst (λ f. IsListing (files_after history) f names) sinks agrees in
      let e = legal.1.honest.modelled.effect in
      let same : (n : List ℕ) → step.files n ≡ files_after history n =
      λ n. done_tails (deed step.act) step.act.answer names number of e.did (files_after history) step.files answer e.may e.files_left n
      ∙ ap (λ c. changed (change_of c) (files_after history) n) call in
      record {
        legal = legal;
        each = λ name can there. (listing.each name).1 (can, subst (λ o. IsSome o) (same (in_folder (codes "sinks") name)) there);
        starts = λ s. omega arith;
      }

pub listed : (stamped : List (List ℕ)) (history : History) → Legal stamped history → (l : Listing) → last_listing history ≡ Some l → Listed stamped history l
listed stamped [] legal l e = absurd (none-some l e)
listed stamped (step ∷ history) legal l e =
    go (deed step.act) step.act.answer refl refl e (λ k. earlier stamped history step legal l (listed stamped history legal.0 l k))
  where
    go : (call : Deed) (answer : ActAnswer) → deed step.act ≡ call → step.act.answer ≡ answer
        → listing_by (same_role step.act.who.role Job) call answer (step ∷ history) (last_listing history) ≡ Some l
        → (last_listing history ≡ Some l → Listed stamped (step ∷ history) l) → Listed stamped (step ∷ history) l
    go (Lists folder) (Done names number of) ce ae e before = pick (same_role step.act.who.role Job && bytes_eq folder (codes "sinks")) refl e
      where
        pick : (b : Bool) → (same_role step.act.who.role Job && bytes_eq folder (codes "sinks")) ≡ b
            → (if b then Some (record { names = names; upto = step ∷ history }) else last_listing history) ≡ Some l → Listed stamped (step ∷ history) l
        pick true k e =
            let sinks = bytes_same folder (codes "sinks") (and_parts (same_role step.act.who.role Job) (bytes_eq folder (codes "sinks")) k).1 in
            subst (Listed stamped (step ∷ history)) (same_Some (record { names = names; upto = step ∷ history }) l e)
            (now stamped history step legal folder names number of ce ae sinks)
        pick false k e = before e
    go call answer ce ae e before = before e

-- ---- what is kept at a listing without sinks under writing is found

count_none : {X : Type 0} (p : X → Bool) (xs : List X) (x : X) → count_by p xs ≡ 0 → Contains xs x → p x ≡ true → ⊥
count_none {X = X} p xs x none one passes = go xs one.0 none one.1 one.2
  where
    go : (xs : List X) (k : ℕ) → count_by p xs ≡ 0 → k < length xs → slice_index_or xs k x ≡ x → ⊥
    go [] k none below at = omega arith
    go (y ∷ xs) zero none below at = let e : p y ≡ true = ap p at ∙ passes in let one = ap {B = ℕ} (λ b. cond b 1 0) e in let more = sum_by-cons (λ x. cond (p x) 1 0) y xs in omega (arith, one, more, none)
    go (y ∷ xs) (suc k) none below at = let more = sum_by-cons (λ x. cond (p x) 1 0) y xs in go xs k (omega (arith, none, more)) (omega arith) at

pub flat_in : {X Y : Type 0} (f : X → List Y) (xs : List X) (x : X) (y : Y) → Contains xs x → Contains (f x) y → Contains (flat_map f xs) y
flat_in {X = X} {Y = Y} f xs x y one in_it = go xs one.0 one.1 one.2
  where
    go : (xs : List X) (k : ℕ) → k < length xs → slice_index_or xs k x ≡ x → Contains (flat_map f xs) y
    go [] k below at = absurd (let z : ⊥ = omega arith in z)
    go (z ∷ xs) zero below at = Contains-append_left (f z) (flat_map f xs) y (subst (λ z. Contains (f z) y) (sym at) in_it)
    go (z ∷ xs) (suc k) below at = Contains-append_right (f z) (flat_map f xs) y (go xs k (omega arith) at)

any_in : {X : Type 0} (P : X → Type 0) (xs : List X) (x : X) → Contains xs x → P x → Any P xs
any_in P xs x one h = (one.0, x, one.1, one.2, h)

pub sink_name : (x : Stem) → spell (SinkFile x) ≡ in_folder (codes "sinks") (stem_text x ++ codes ".chukwa")
unfolding spell
sink_name x = refl

done_name : (x : Stem) → spell (DoneFile x) ≡ in_folder (codes "sinks") (stem_text x ++ codes ".done")
unfolding spell
done_name x = refl

module _ (stamped : List (List ℕ)) (history : History) (l : Listing) (b : Listed stamped history l) (closed : unclosed_in l.names ≡ 0) where
  at_listing : (name w : List ℕ) → w ≡ in_folder (codes "sinks") name → CanBeListed name → (f : File) → files_after l.upto w ≡ Some f → Contains l.names name
  at_listing name w e can f there =
      b.each name can (subst (λ o. IsSome o) (sym (ap (files_after l.upto) (sym e) ∙ there)) refl)

  found_open : (x : Stem) → IsTrue (is_stem x) → (f : File) → file (files_after l.upto) (SinkFile x) ≡ Some f → ⊥
  found_open x known f there =
      let name = stem_text x ++ codes ".chukwa" in
      count_none is_unclosed l.names name closed (at_listing name (spell (SinkFile x)) (sink_name x) (sink_can x known) f there)
      (ap is_some (before_end-append (stem_text x) (codes ".chukwa")))

  found_done : (x : Stem) → IsTrue (is_stem x) → (f : File) (c : Chunk) → file (files_after l.upto) (DoneFile x) ≡ Some f
      → Contains (chunks_within chunk_limit f.bytes) c → Contains (found l) c
  found_done x known f c there one =
      let files = files_after l.upto in
      let name = stem_text x ++ codes ".done" in
      let is : is_closed name ≡ true = ap is_some (before_end-append (stem_text x) (codes ".done")) in
      let at : files (in_folder (codes "sinks") name) ≡ Some f = ap files (sym (done_name x)) ∙ there in
      let chunks : listed_chunks files name ≡ chunks_within chunk_limit f.bytes =
      ap (λ v. if v then sink_chunks (files (in_folder (codes "sinks") name)) else []) is ∙ ap sink_chunks at in
      Contains-append_right (aside_chunks files) (flat_map (listed_chunks files) l.names) c
      (flat_in (listed_chunks files) l.names name c (at_listing name (spell (DoneFile x)) (done_name x) (done_can x known) f there)
      (subst (λ cs. Contains cs c) (sym chunks) one))

  found_kept : (s : Stream) (o : ℕ) → KeptAt l.upto s o → Any (Covers s o) (found l)
  found_kept s o (c, h, inl (x, known, inl one)) =
      let p = sink_there (committed_length (files_after l.upto) x) (file (files_after l.upto) (SinkFile x)) c one in
      absurd (found_open x known p.0 p.1)
  found_kept s o (c, h, inl (x, known, inr one)) =
      let files = files_after l.upto in
      let n = committed_length files x in
      let p = sink_there n (file files (DoneFile x)) c one in
      let f : File = p.0 in
      let size : n ≡ length f.bytes = ap (λ o. committed_of o (file files (MarkFile x))) p.1 in
      let all : take n f.bytes ≡ f.bytes = take_all n f.bytes (omega (arith, size)) in
      any_in (Covers s o) (found l) c
      (found_done x known f c p.1
      (subst (λ t. Contains (chunks_within chunk_limit t) c) all (subst (λ o. Contains (chunks_below n o) c) p.1 one))) h
  found_kept s o (c, h, inr one) =
      any_in (Covers s o) (found l) c (Contains-append_left (aside_chunks (files_after l.upto)) (flat_map (listed_chunks (files_after l.upto)) l.names) c one) h

-- a complete run takes it
pub runs_take : (stamped : List (List ℕ)) (history : History) → Legal stamped history → (l : Listing) → IsComplete history l
    → (s : Stream) (e : ℕ) → ((o : ℕ) → o < e → SavedAt l.upto s o) → e ≤ archived_end history s
runs_take stamped history legal l complete s e saved = go (cases_lt e (end_before history l s))
  where
    b : Listed stamped history l
    b = listed stamped history legal l complete.last

    reach : IsReach (λ o. Any (Covers s o) (found l)) (end_before history l s) (end_since history l s)
    reach = complete.reached s

    starts : start_of l.upto s ≤ start_of history s
    starts = b.starts s

    covered : (o : ℕ) → end_before history l s ≤ o → SavedAt l.upto s o → Any (Covers s o) (found l)
    covered o low (inl kept) = found_kept stamped history l b complete.closed s o kept
    covered o low (inr below) = absurd (let z : ⊥ = omega (arith, low, below, starts) in z)

    go : (e < end_before history l s) ⊎ (end_before history l s ≤ e) → e ≤ archived_end history s
    go (inl less) = let on = reach.on in omega (arith, less, on, starts)
    go (inr more) = let most = reach.greatest e more (λ o low high. covered o low (saved o high)) in omega (arith, most, starts)
