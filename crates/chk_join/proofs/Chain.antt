-- One part of a join behind the other.
use Rattle.std.proofs.Common.{◌≡◌, inl, inr, ℕ, ◌≤◌, false, List, [], ◌∷◌, ◌++◌, map, length}
use Rattle.std.proofs.Common.{Option, Ok, Err, Result, refl, ap, ap₂, sym, subst, ◌∙◌, arith}
use Rattle.std.specs.Prelude.{flat_map, Contains, if◌then◌else◌}
use Rattle.chk_site.specs.Files.{Files}
use Rattle.chk_site.specs.Acts.{Deed, touches}
use Rattle.chk_site.specs.History.{Step, History, Every, Others}
use Rattle.chk_site.specs.Site.{Adds}
use Rattle.chk_site.specs.Runs.{anyhow, Leads}
use Rattle.chk_site.proofs.Runs.{adds_as, adds_both}
use Rattle.chk_site.proofs.Leads.{leads_as, leads_none, leads_then, owned_anyhow}
use Rattle.chk_chunk.specs.Keys.{Chunk, chunk_limit}
use Rattle.chk_world.specs.Books.{End, Book}
use Rattle.chk_world.specs.JobSteps.{IsOf, ReadsFile, SparesFile}
use Rattle.chk_world.proofs.Each.{Each}
use Rattle.chk_record_index.specs.Faults.{IsOfRead, FailsLast}
use Rattle.chk_record_index.specs.Order.{in_head_order}
use Rattle.chk_record_index.specs.Pieces.{AsksInPieces}
use Rattle.chk_record_index.specs.declared.fault.JobFault.{JobFault}
use Rattle.chk_record_index.specs.declared.fault.JobFault.TheVariants.{Outside, Damaged, Spent, NoMemory}
use Rattle.chk_book.specs.Views.{end_view}
use Rattle.chk_book.specs.Folders.{most_in}
use Rattle.chk_record_reader.specs.Segments.{names_of, HasFiles, SparesFiles, AreSettled, IsSound}
use Rattle.chk_record_reader.specs.Segments.{heads_from}
use Rattle.chk_record_reader.specs.Checking.{AllGoWell}
use Rattle.chk_record_reader.specs.Merging.{SparesBoth, AreApart, SoundHeads}
use Rattle.chk_record_reader.proofs.AllRead.{adds_all}
use Rattle.chk_record_reader.proofs.Frames.{stays_so, spares_one, reads_quiet}
use Rattle.chk_join_sources.specs.declared.gathering.Side.{Side}
use Rattle.chk_join_sources.specs.Reading.{AreAmong}
use Rattle.chk_join_sources.specs.declared.plan.Plan.{Plan}
use Rattle.chk_join_sources.specs.declared.plan.Choice.{Choice}
use Rattle.chk_join_sources.specs.Pairs.{Pair, pairs_of, taken_end}
use Rattle.chk_join_sources.specs.Plans.{IsPlanOf, AreChoicesOf}
use Rattle.chk_join_sources.specs.Differing.{PairAgrees}
use Rattle.chk_join_sources.specs.Choosing.{IsSideInOrder, ComparedPairs}
use Rattle.chk_join_sources.specs.Copying.{joined_segment, chosen_chunks, FitsIn, Copies}
use Rattle.chk_join.specs.Preparing.{SpentPlan, WrotePlan, TookPlan, HasOrder, IsGathered}
use Rattle.chk_join.specs.Preparing.{JoinedSides, JoinedBooks}
use Rattle.chk_join.specs.declared.preparing.Prepared.{Prepared}
use Rattle.chk_join.specs.declared.preparing.Prepared.TheVariants.{Ready, Differs}
use Rattle.chk_join.specs.Working.{Worked}
use Rattle.chk_join.proofs.Joins.{joins}
use Rattle.chk_archive_parts.proofs.Works.{works_as}
use Rattle.chk_book.proofs.Works.{worked}
use Rattle.chk_join.proofs.Gathered.{is_side}
use Rattle.chk_join_sources.proofs.CopySteps.{of_files}

-- ---- steps of others

pub of_segment : (all : List (List ℕ)) (segment : List ℕ) (added history : History)
    → Others (SparesBoth all segment) added history → Others (SparesFile segment) added history
of_segment all segment [] history s = tt
of_segment all segment (step ∷ added) history s = (of_segment all segment added history s.0, λ theirs. (s.1 theirs).1)

-- what is told of the files alone
pub beside_segment : (all : List (List ℕ)) (segment : List ℕ) {A B : History → Type 0} {old new : Option History}
    → Adds old new (Leads (anyhow (SparesFiles all)) A B) → Adds old new (Leads (anyhow (SparesBoth all segment)) A B)
beside_segment all segment {A = A} {B = B} told =
    adds_as (Leads (anyhow (SparesBoth all segment)) A B) told
    (λ added history x. record {
      leads = λ others had. x.leads (of_files all segment added history others) had;
      own = owned_anyhow added history;
    })

-- nothing is told
pub untold : (S : History → Step → Type 0) {A B : History → Type 0} {P : History → History → Type 0} {old new : Option History}
    → Adds old new P → ((h : History) → B h) → Adds old new (Leads (anyhow S) A B)
untold S {A = A} {B = B} told all =
    adds_as (Leads (anyhow S) A B) told
    (λ added history p. record { leads = λ others had. all (added ++ history); own = owned_anyhow added history })

-- no call
pub none_told : (S : History → Step → Type 0) {A B : History → Type 0} (now : Option History) → ((h : History) → A h → B h)
    → Adds now now (Leads (anyhow S) A B)
none_told S now as_is = leads_none now as_is

-- a fact of no history stays
pub with_fact : {S : History → Step → Type 0} {A B : History → Type 0} (X : Type 0) {old new : Option History}
    → Adds old new (Leads (anyhow S) A B) → Adds old new (Leads (anyhow S) (λ h. A h × X) (λ h. B h × X))
with_fact {S = S} {A = A} {B = B} X told =
    adds_as (Leads (anyhow S) (λ h. A h × X) (λ h. B h × X)) told
    (λ added history x. record { leads = λ others had. (x.leads others had.0, had.1); own = owned_anyhow added history })

-- and may be told before the steps
pub under : {S : History → Step → Type 0} {A B : History → Type 0} {X : Type 0} {K : History → History → Type 0}
    {old new : Option History} → Adds old new K → ((x : X) → Adds old new (Leads (anyhow S) A B))
    → Adds old new (Leads (anyhow S) (λ h. A h × X) B)
under {S = S} {A = A} {B = B} {X = X} k each =
    adds_all (Leads (anyhow S) (λ h. A h × X) B) k each
    (λ added history p q. record { leads = λ others had. (q had.1).leads others had.0; own = owned_anyhow added history })

-- ---- own calls that leave the files

pub files_stay : (K : Deed → Type 0) (all : List (List ℕ)) (held : Files) (segment : List ℕ) → AreSettled all held
    → ((w : List ℕ) → Contains all w → (call : Deed) → K call → touches call w ≡ false)
    → (added history : History) → Every (IsOf K) added history → Others (SparesBoth all segment) added history
    → HasFiles all held history → HasFiles all held (added ++ history)
files_stay K all held segment settled quiet added history made others files v is =
    stays_so K v (held v) (quiet v is) (settled v is).0 added history made
    (spares_one all v is added history (of_files all segment added history others)) (files v is)

-- calls of this kind leave them
pub stays_over : (K : Deed → Type 0) (all : List (List ℕ)) (held : Files) (segment : List ℕ) → AreSettled all held
    → ((w : List ℕ) → Contains all w → (call : Deed) → K call → touches call w ≡ false) → {old new : Option History}
    → Adds old new (Every (IsOf K))
    → Adds old new (Leads (anyhow (SparesBoth all segment)) (HasFiles all held) (HasFiles all held))
stays_over K all held segment settled quiet own =
    adds_as (Leads (anyhow (SparesBoth all segment)) (HasFiles all held) (HasFiles all held)) own
    (λ added history made. record {
      leads = λ others had. files_stay K all held segment settled quiet added history made others had;
      own = owned_anyhow added history;
    })

-- what reads of some of the files tell
pub reads_told : (all names : List (List ℕ)) (held : Files) (segment : List ℕ) → AreSettled all held → AreAmong all names
    → {B : History → Type 0} {old new : Option History} → Adds old new (Every (IsOf ReadsFile))
    → Adds old new (Leads (anyhow (SparesFiles names)) (HasFiles names held) B)
    → Adds old new (Leads (anyhow (SparesBoth all segment)) (HasFiles all held) (λ h. HasFiles all held h × B h))
reads_told all names held segment settled among {B = B} own told =
    adds_both (Leads (anyhow (SparesBoth all segment)) (HasFiles all held) (λ h. HasFiles all held h × B h)) own told
    (λ added history made x. record {
      leads = λ others had. (
        files_stay ReadsFile all held segment settled (λ w is call k. reads_quiet w call k) added history made others had,
        x.leads (some_files added history others) (λ w is. had w (among w is)),
      );
      own = owned_anyhow added history;
    })
  where
    some_files : (added history : History) → Others (SparesBoth all segment) added history
        → Others (SparesFiles names) added history
    some_files [] history s = tt
    some_files (step ∷ added) history s =
        (some_files added history s.0, λ theirs w is. (s.1 theirs).0 w (among w is))

-- ---- a plan

pub chosen_fit : (l r : Side) (ps : List Pair) (cs : List Choice) → AreChoicesOf l.heads.now r.heads.now ps cs
    → Each (FitsIn l r) cs
chosen_fit l r [] [] are = tt
chosen_fit l r [] (c ∷ cs) are = absurd are
chosen_fit l r (p ∷ ps) [] are = absurd are
chosen_fit l r (p ∷ ps) (c ∷ cs) are = (
  record {
    low = are.0.block.low;
    high = subst (λ (t : _). c.block.end ≤ length (if t then r.heads.now else l.heads.now)) (sym are.0.side) are.0.block.high;
  },
  chosen_fit l r ps cs are.1,
)

pub took_sides : (held : Files) (next : ℕ) (l r : Side) (ps : List Pair) (plan : Plan)
    → IsPlanOf l.heads.now r.heads.now ps plan → (result : Result Prepared JobFault)
    → SpentPlan next (map end_view plan.ends) result → (h : History)
    → TookPlan next (flat_map (chosen_chunks l r held) plan.choices.items) plan result h
    → Each (PairAgrees l r held) ps → JoinedSides held next l r ps result h
took_sides held next l r ps plan is (Ok (Ready b report)) spent h x each = (
  each,
  record {
    plan = plan;
    is = is;
    ends = x.1.1.0;
    bytes = x.1.1.1;
    chunks = flat_map (chosen_chunks l r held) plan.choices.items;
    are = refl;
    alone = x.0;
    runs = x.1.0;
    unspent = λ last. x.1.1.0 ∙ spent last;
  },
)
took_sides held next l r ps plan is (Ok (Differs d)) spent h x each = absurd x
took_sides held next l r ps plan is (Err (Damaged name at)) spent h x each = x
took_sides held next l r ps plan is (Err (Spent n)) spent h x each =
    (each, (spent.0, (spent.1.0, λ none. spent.1.1 (is.ends ∙ ap (map taken_end) none))))
took_sides held next l r ps plan is (Err (Outside call)) spent h x each = tt
took_sides held next l r ps plan is (Err NoMemory) spent h x each = tt

-- a comparison that was refused
pub not_compared : (held : Files) (next : ℕ) (l r : Side) (all : List (List ℕ)) (ps : List Pair) (fault : JobFault)
    → IsOfRead fault → (h : History) → ComparedPairs all l r held ps (Err fault) h
    → JoinedSides held next l r ps (Err fault) h
not_compared held next l r all ps (Outside call) only h x = tt
not_compared held next l r all ps (Damaged name at) only h x = x
not_compared held next l r all ps (Spent n) only h x = absurd only
not_compared held next l r all ps NoMemory only h x = tt

-- ---- both archives

module _ (held : Files) (left : List ℕ) (a : Book) (right : List ℕ) (b : Book) (next : ℕ) where
  pub right_damaged : (fault : JobFault) → IsOfRead fault → (h : History) → SoundHeads right b held (Err fault) h
      → JoinedBooks held left a right b next (Err fault) h
  right_damaged (Outside call) only h x = tt
  right_damaged (Damaged name at) only h x = (x.0, inr x.1)
  right_damaged (Spent n) only h x = absurd only
  right_damaged NoMemory only h x = tt

  pub left_damaged : (fault : JobFault) → IsOfRead fault → (h : History) → SoundHeads left a held (Err fault) h
      → JoinedBooks held left a right b next (Err fault) h
  left_damaged (Outside call) only h x = tt
  left_damaged (Damaged name at) only h x = (x.0, inl x.1)
  left_damaged (Spent n) only h x = absurd only
  left_damaged NoMemory only h x = tt

  pub both_joined : (l r : Side) → IsGathered left a held l → IsGathered right b held r → HasOrder a → HasOrder b
      → (result : Result Prepared JobFault) (h : History) → JoinedSides held next l r (pairs_of a.ends b.ends) result h
      → JoinedBooks held left a right b next result h
  both_joined l r gl gr oa ob (Ok p) h x =
      (gl.runs, (gr.runs, joins left right a b held l r gl gr oa ob next (Ok p) h x))
  both_joined l r gl gr oa ob (Err (Spent n)) h x =
      (gl.runs, (gr.runs, joins left right a b held l r gl gr oa ob next (Err (Spent n)) h x))
  both_joined l r gl gr oa ob (Err (Damaged name at)) h x = absurd x
  both_joined l r gl gr oa ob (Err (Outside call)) h x = tt
  both_joined l r gl gr oa ob (Err NoMemory) h x = tt

-- ---- a plan that wasn't taken

pub not_taken : (next : ℕ) (xs ys : List Chunk) (es : List End) (plan : Plan) (fault : JobFault) (h : History)
    → WrotePlan next xs es (Err fault) h → TookPlan next ys plan (Err fault) h
not_taken next xs ys es plan (Outside call) h x = tt
not_taken next xs ys es plan (Damaged name at) h x = x
not_taken next xs ys es plan (Spent n) h x = tt
not_taken next xs ys es plan NoMemory h x = tt

pub reads_work : {T : Type 0} (n : ℕ) (r : Result T JobFault) {old new : Option History}
    → Adds old new (Every (IsOf ReadsFile)) → Adds old new (Every AsksInPieces) → Adds old new (FailsLast r)
    → Adds old new (Worked (Copies n) r)
reads_work n r own pieces last =
    works_as ReadsFile (Copies n) (λ call k. inl k) r (worked ReadsFile r own pieces last)

-- ---- the heads of one archive, and then the other one's

module _ (all : List (List ℕ)) (held : Files) (left : List ℕ) (a : Book) (right : List ℕ) (b : Book) (next : ℕ) where
  abbrev S : History → Step → Type 0
  S = SparesBoth all (joined_segment next)

  pub right_joined : {l r : Side} {xs ys : List End} (result : Result Prepared JobFault) {W : History → History → Type 0}
      {old mid new : Option History}
      → ((most : ℕ) (files : List (List ℕ)) (held2 : Files) → most ≤ 1048576 → AreSettled files held2
      → AreApart files (joined_segment next) → IsSideInOrder most files held2 l → IsSideInOrder most files held2 r
      → Adds mid new (Leads (anyhow (SparesBoth files (joined_segment next))) (HasFiles files held2)
      (JoinedSides held2 next l r (pairs_of xs ys) result)))
      → Adds mid new W → xs ≡ a.ends → ys ≡ b.ends → r.names.now ≡ names_of right b → AreSettled all held
      → AreApart all (joined_segment next) → AreAmong all (names_of left a) → AreAmong all (names_of right b)
      → most_in left ≡ chunk_limit → most_in right ≡ chunk_limit → HasOrder a → HasOrder b → IsGathered left a held l
      → Adds old mid (Every (IsOf ReadsFile))
      → Adds old mid (Leads (anyhow (SparesFiles (names_of right b))) (HasFiles (names_of right b) held)
      (SoundHeads right b held (Ok r.heads.now)))
      → Adds old new (Leads (anyhow S) (HasFiles all held) (JoinedBooks held left a right b next result))
  right_joined {l = l} {r = r} {xs = xs} {ys = ys} result raw k ex ey names settled apart lefts rights lm rm oa ob gl
      own told =
      leads_then
      (leads_as (λ h x. x) (λ h x. (x.0, gathered x.1.1 x.1.2 x.1.3))
      (reads_told all (names_of right b) held (joined_segment next) settled rights own told))
      (under k
      (λ (gr : IsGathered right b held r). leads_as (λ h x. x)
      (λ h x. both_joined held left a right b next l r gl gr oa ob result h
      (subst (λ zs. JoinedSides held next l r zs result h) (ap₂ pairs_of ex ey) x))
      (raw chunk_limit all held (omega arith) settled apart
      (subst (λ m. IsSideInOrder m all held l) lm (is_side left a held l gl all lefts))
      (subst (λ m. IsSideInOrder m all held r) rm (is_side right b held r gr all rights)))))
    where
      gathered : Each (IsSound (most_in right) held) (names_of right b)
          → AllGoWell b.ends (heads_from (most_in right) held 0 (names_of right b))
          → r.heads.now ≡ in_head_order (heads_from (most_in right) held 0 (names_of right b)) → IsGathered right b held r
      gathered sound well heads = record { names_are = names; runs = record { sound = sound; well = well }; heads_are = heads }

  pub left_joined : {l : Side} (result : Result Prepared JobFault) {W : History → History → Type 0}
      {old mid new : Option History}
      → ((files : List (List ℕ)) (held2 : Files) (folder : List ℕ) → AreSettled files held2
      → AreApart files (joined_segment next) → AreAmong files (names_of folder a) → AreAmong files (names_of right b)
      → most_in folder ≡ chunk_limit → most_in right ≡ chunk_limit → HasOrder a → HasOrder b → IsGathered folder a held2 l
      → Adds mid new (Leads (anyhow (SparesBoth files (joined_segment next))) (HasFiles files held2)
      (JoinedBooks held2 folder a right b next result)))
      → Adds mid new W → l.names.now ≡ names_of left a → AreSettled all held
      → AreApart all (joined_segment next) → AreAmong all (names_of left a) → AreAmong all (names_of right b)
      → most_in left ≡ chunk_limit → most_in right ≡ chunk_limit → HasOrder a → HasOrder b
      → Adds old mid (Every (IsOf ReadsFile))
      → Adds old mid (Leads (anyhow (SparesFiles (names_of left a))) (HasFiles (names_of left a) held)
      (SoundHeads left a held (Ok l.heads.now)))
      → Adds old new (Leads (anyhow S) (HasFiles all held) (JoinedBooks held left a right b next result))
  left_joined {l = l} result raw k names settled apart lefts rights lm rm oa ob own told =
      leads_then
      (leads_as (λ h x. x) (λ h x. (x.0, gathered x.1.1 x.1.2 x.1.3))
      (reads_told all (names_of left a) held (joined_segment next) settled lefts own told))
      (under k (λ (gl : IsGathered left a held l). raw all held left settled apart lefts rights lm rm oa ob gl))
    where
      gathered : Each (IsSound (most_in left) held) (names_of left a)
          → AllGoWell a.ends (heads_from (most_in left) held 0 (names_of left a))
          → l.heads.now ≡ in_head_order (heads_from (most_in left) held 0 (names_of left a)) → IsGathered left a held l
      gathered sound well heads = record { names_are = names; runs = record { sound = sound; well = well }; heads_are = heads }
