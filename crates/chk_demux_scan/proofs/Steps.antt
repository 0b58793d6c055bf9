-- Files are read from the last one back, step by step.
use Rattle.std.proofs.Common.{◌≡◌, ◌<◌, ◌≤◌, ◌+◌, ◌-◌, inl, inr, ℕ, zero, suc, Bool, true, false, true≢false, List, [], ◌∷◌, ◌++◌, length, drop, get_or, Option, Ok, Err, refl, sym, ◌∙◌, ap, subst, arith, append_assoc, get_or-drop}
use Rattle.std.specs.Prelude.{Contains}
use Rattle.std.proofs.lemmas.Bool.{cases_lt, cases_eq}
use Rattle.std.proofs.lemmas.List.{drop_more, drop_all, length-drop}
use Rattle.chk_site.specs.Files.{File, Files}
use Rattle.chk_site.specs.Effect.{IsSmallFile}
use Rattle.chk_site.specs.History.{History, Every}
use Rattle.chk_site.specs.Site.{Adds}
use Rattle.chk_site.specs.Runs.{anyhow, Leads}
use Rattle.chk_site.proofs.Runs.{adds_as}
use Rattle.chk_site.proofs.Leads.{leads_as, leads_none, leads_then, owned_anyhow}
use Rattle.chk_replace.specs.Load.{Has}
use Rattle.chk_chunk.specs.Keys.{chunk_limit}
use Rattle.chk_world.specs.Books.{End, AllChunks}
use Rattle.chk_world.specs.JobSteps.{IsOf, ReadsFile, SparesFile}
use Rattle.chk_world.proofs.Each.{Each, each_at}
use Rattle.chk_world.proofs.BooksTrue.{each_append}
use Rattle.chk_record_index.specs.Heads.{Head, heads_in}
use Rattle.chk_record_index.specs.Order.{in_head_order}
use Rattle.chk_record_index.specs.Pieces.{bytes_in}
use Rattle.chk_record_index.specs.declared.fault.JobFault.{JobFault}
use Rattle.chk_record_reader.specs.OnePass.{end_at}
use Rattle.chk_record_reader.specs.Segments.{HasFiles, SparesFiles, AreSettled, IsSound, heads_from}
use Rattle.chk_record_reader.proofs.Frames.{reads_quiet, stays_so, spares_one, among}
use Rattle.chk_record_reader.proofs.Records.{heads_have_bytes}
use Rattle.chk_demux_scan.proofs.Streams.{HasBytes}
use Rattle.chk_demux_scan.specs.Backward.{AllRunBack, ReachPlaces, ReachStarts, AreBegins}
use Rattle.chk_demux_scan.specs.Forward.{is_past, past_of}
use Rattle.chk_demux_scan.specs.Newest.{heads_behind, ReachFar, Suffice, IsNewest, FoundFrom, are_found, too_few, IsBack, SoFar, ReadBack, TookNext, SameTies}
use Rattle.chk_demux_scan.proofs.Turned.{in_one_order, ties_step}

-- own reads leave the files
pub files_stay : (names : List (List ℕ)) (held : Files) {old new : Option History}
    → AreSettled names held
    → Adds old new (Every (IsOf ReadsFile))
    → Adds old new (Leads (anyhow (SparesFiles names)) (HasFiles names held) (HasFiles names held))
files_stay names held settled own =
    adds_as (Leads (anyhow (SparesFiles names)) (HasFiles names held) (HasFiles names held)) own
    (λ added history made. record {
      leads = λ s h v is.
          stays_so ReadsFile v (held v) (reads_quiet v) (settled v is).0 added history made
          (spares_one names v is added history s) (h v is);
      own = owned_anyhow added history;
    })

bytes_from : (held : Files) (n : ℕ) (ws : List (List ℕ))
    → Each HasBytes (heads_from chunk_limit held n ws)
bytes_from held n [] = tt
bytes_from held n (w ∷ ws) =
    each_append HasBytes (heads_in chunk_limit n (bytes_in (held w)))
    (heads_from chunk_limit held (n + 1) ws)
    (heads_have_bytes chunk_limit n (bytes_in (held w))) (bytes_from held (n + 1) ws)

far_places : (es : List End) (places : List ℕ) (n : ℕ) (hs : List Head) → 0 < n
    → ReachFar es places n hs → ReachPlaces es places hs
far_places es places zero hs some far = absurd (let z : ⊥ = omega (arith, some) in z)
far_places es places (suc n) hs some far = far

pub places_far : (es : List End) (places : List ℕ) (n : ℕ) (hs : List Head) → 0 < n
    → ReachPlaces es places hs → ReachFar es places n hs
places_far es places zero hs some far = absurd (let z : ⊥ = omega (arith, some) in z)
places_far es places (suc n) hs some far = far

-- ---- what the tests of the numbers tell

module _ (es : List End) (hs : List Head) (begins : List ℕ) (same : length begins ≡ length es)
    (are : AreBegins es hs begins) where
  pub reach_yes : (places : List ℕ) → ((k : ℕ) → k < length begins
      → get_or begins k 0 ≤ get_or places k 0) → ReachPlaces es places hs
  reach_yes places passes k low =
      subst (λ n. n ≤ get_or places k 0) (are.are k low) (passes k (omega (arith, low, same)))

  pub reach_no : (places : List ℕ) → (((k : ℕ) → k < length begins
      → get_or begins k 0 ≤ get_or places k 0) → ⊥)
      → ReachPlaces es places hs → ⊥
  reach_no places fails far =
      fails (λ k low.
      let below : k < length es = omega (arith, low, same) in
      subst (λ n. n ≤ get_or places k 0) (sym (are.are k below)) (far k below))

  pub starts_yes : ((k : ℕ) → k < length es → get_or begins k 0 ≡ (end_at es k).start)
      → ReachStarts es hs
  starts_yes passes k low = sym (are.are k low) ∙ passes k low

  pub starts_no : (((k : ℕ) → k < length es → get_or begins k 0 ≡ (end_at es k).start) → ⊥)
      → ReachStarts es hs → ⊥
  starts_no fails far = fails (λ k low. are.are k low ∙ far k low)

module _ (es : List End) (places : List ℕ) (names : List (List ℕ)) (held : Files) where
  abbrev Behind : ℕ → List Head
  Behind i = heads_behind held names i

  -- the heads of more files end with those of fewer
  split_at : (d k : ℕ) → k + d ≤ length names
      → (front : List Head) × (Behind k ≡ front ++ Behind (k + d))
  split_at zero k low = ([], ap Behind (let z : k ≡ k + 0 = omega arith in z))
  split_at (suc d) k low =
      let w : List ℕ = get_or names k [] in
      let block : List Head = heads_in chunk_limit k (bytes_in (held w)) in
      let more : Behind k ≡ block ++ Behind (k + 1) =
      ap (heads_from chunk_limit held k) (drop_more names k [] (omega (arith, low))) in
      let rest = split_at d (k + 1) (omega (arith, low)) in
      let at : k + 1 + d ≡ k + suc d = omega arith in (
        block ++ rest.0,
        more ∙ (ap (λ l. block ++ l) (rest.1 ∙ ap (λ n. rest.0 ++ Behind n) at)
            ∙ sym (append_assoc block rest.0 (Behind (k + suc d)))),
      )

  pub split : (k m : ℕ) → k ≤ m → m ≤ length names
      → (front : List Head) × (Behind k ≡ front ++ Behind m)
  split k m up low =
      let at : k + (m - k) ≡ m = omega (arith, up) in
      let s = split_at (m - k) k (omega (arith, up, low)) in
      (s.0, s.1 ∙ ap (λ n. s.0 ++ Behind n) at)

  -- before any file is read
  pub at_first : (i : ℕ) (begins : List ℕ) → i ≡ length names → AreBegins es [] begins
      → IsBack es places names held i [] begins
  at_first i begins is are =
      let none : drop i names ≡ [] = drop_all i names (omega (arith, is)) in
      let no_heads : Behind i ≡ [] = ap (heads_from chunk_limit held i) none in
      record {
        sound = subst (Each (IsSound chunk_limit held)) (sym none) tt;
        order = subst (λ hs. SameTies [] (past_of es places hs)) (sym no_heads) (λ z. refl);
        course = subst (λ hs. AreBegins es hs begins) (sym no_heads) are;
        newest = λ j low high. absurd (let z : ⊥ = omega (arith, low, high, is) in z);
      }

  pub so_far_first : (k i : ℕ) (begins : List ℕ) (now : Option History) → i ≡ length names
      → k ≤ length names
      → AreBegins es [] begins
      → Adds now now (Leads (anyhow (SparesFiles (drop k names))) (HasFiles (drop k names) held)
      (SoFar es places names held k i [] begins))
  so_far_first k i begins now is low are = leads_none now (λ h files. record {
    files = files;
    back = λ up. at_first i begins is are;
    few = λ below. absurd (let z : ⊥ = omega (arith, below, low, is) in z);
  })

  -- all that has to be read was read
  pub found_newest : (i : ℕ) (heads sorted : List Head) (begins : List ℕ) → i ≤ length names
      → IsBack es places names held i heads begins
      → ReachFar es places i (Behind i) → sorted ≡ in_head_order heads
      → IsNewest es places names held i sorted
  found_newest i heads sorted begins low back far is = record {
    within = low;
    suffice = record { sound = back.sound; run = back.course.all; far = far };
    newest = back.newest;
    order = is ∙ in_one_order heads (past_of es places (Behind i)) back.order;
  }

  module _ (k i : ℕ) (low : i ≤ length names) (heads : List Head) (begins : List ℕ)
      {old new : Option History}
      (so_far : Adds old new (Leads (anyhow (SparesFiles (drop k names)))
      (HasFiles (drop k names) held)
      (SoFar es places names held k i heads begins))) where
    pub all_read : (AreBegins es (Behind i) begins → ReachFar es places i (Behind i))
        → Adds old new (Leads (anyhow (SparesFiles (drop k names))) (HasFiles (drop k names) held)
        (ReadBack es places names held k heads (Ok true)))
    all_read far = leads_as (λ h x. x) (λ h x. (x.files, λ sorted is. found x sorted is)) so_far
      where
        found : {h : History} → SoFar es places names held k i heads begins h
            → (sorted : List Head) → sorted ≡ in_head_order heads
            → FoundFrom es places names held k sorted
        found x sorted is = elim (cases_lt i k) [
          | inl below ↦ too_few (omega (arith, below)) (x.few below)
          | inr up ↦
              let back = x.back up in
              are_found i up (found_newest i heads sorted begins low back (far back.course) is)
        ]

    -- not even all files reach the starts
    pub none_read : i ≡ 0 → (AreBegins es (Behind i) begins → ReachStarts es (Behind i) → ⊥)
        → Adds old new (Leads (anyhow (SparesFiles (drop k names))) (HasFiles (drop k names) held)
        (ReadBack es places names held k heads (Ok false)))
    none_read is fails = leads_as (λ h x. x) (λ h x. lacks x) so_far
      where
        first : (n : ℕ) (hs : List Head) → n ≡ 0 → ReachFar es places n hs → ReachStarts es hs
        first zero hs e far = far
        first (suc n) hs e far = absurd (let z : ⊥ = omega (arith, e) in z)

        lacks : {h : History} → SoFar es places names held k i heads begins h
            → Suffice es places names held k → ⊥
        lacks x suffice = elim (cases_lt i k) [
          | inl below ↦ x.few below suffice
          | inr up ↦
              let here : k ≡ i = omega (arith, up, is) in
              let s : Suffice es places names held i = subst (Suffice es places names held) here
              suffice in
              fails (x.back up).course (first i (Behind i) is s.far)
        ]

    -- all files are read
    pub no_more : i ≡ 0 → length begins ≡ length es → (b : Bool)
        → (b ≡ true → (n : ℕ) → n < length es → get_or begins n 0 ≡ (end_at es n).start)
        → (b ≡ false → ((n : ℕ) → n < length es → get_or begins n 0 ≡ (end_at es n).start) → ⊥)
        → Adds old new (Leads (anyhow (SparesFiles (drop k names))) (HasFiles (drop k names) held)
        (ReadBack es places names held k heads (Ok b)))
    no_more is same true reach miss =
        all_read (λ are. far i (Behind i) is (starts_yes es (Behind i) begins same are
        (reach refl)))
      where
        far : (n : ℕ) (hs : List Head) → n ≡ 0 → ReachStarts es hs → ReachFar es places n hs
        far zero hs e all = all
        far (suc n) hs e all = absurd (let z : ⊥ = omega (arith, e) in z)
    no_more is same false reach miss =
        none_read is (λ are. starts_no es (Behind i) begins same are (miss refl))

  -- ---- one file more

  module _ (m i : ℕ) (w : List ℕ) (next : i ≡ m + 1) (within : m < length names)
      (is : get_or names m w ≡ w) where
    abbrev Block : List Head
    Block = heads_in chunk_limit m (bytes_in (held w))

    names_more : drop m names ≡ w ∷ drop i names
    names_more = drop_more names m w within ∙
        (ap (λ x. x ∷ drop (m + 1) names) is ∙ ap (λ n. w ∷ drop n names) (sym next))

    behind_more : Behind m ≡ Block ++ Behind i
    behind_more = ap (heads_from chunk_limit held m) names_more
        ∙ ap (λ n. Block ++ heads_from chunk_limit held n (drop i names)) (sym next)

    block_bytes : Each HasBytes (Block ++ Behind i)
    block_bytes = each_append HasBytes Block (Behind i)
        (heads_have_bytes chunk_limit m (bytes_in (held w))) (bytes_from held i (drop i names))

    back_more : (heads more : List Head) (begins after : List ℕ)
        → AllChunks chunk_limit (bytes_in (held w)) → more ≡ heads ++ past_of es places Block
        → ((later : List Head) → AreBegins es later begins → AreBegins es (Block ++ later) after)
        → (AreBegins es (Behind i) begins → ReachPlaces es places (Behind i) → ⊥)
        → IsBack es places names held i heads begins → IsBack es places names held m more after
    back_more heads more begins after chunks are leads fails back =
        let led : AreBegins es (Block ++ Behind i) after = leads (Behind i) back.course in
        record {
          sound = subst (Each (IsSound chunk_limit held)) (sym names_more) (chunks, back.sound);
          order = subst (λ l. SameTies l (past_of es places (Behind m))) (sym are)
              (subst (λ l. SameTies (heads ++ past_of es places Block) (past_of es places l))
              (sym behind_more)
              (ties_step es Block (Behind i) led.all block_bytes (is_past es places) heads
              back.order));
          course = subst (λ hs. AreBegins es hs after) (sym behind_more) led;
          newest = λ j high low. elim (cases_eq j i) [
            | inl here ↦ subst (λ n. ReachPlaces es places (Behind n) → ⊥) (sym here)
                (fails back.course)
            | inr other ↦ back.newest j (omega (arith, high, other, next)) low
          ];
        }

    -- fewer files don't suffice
    few_more : {h : History} (k : ℕ) (heads : List Head) (begins : List ℕ)
        → (AreBegins es (Behind i) begins → ReachPlaces es places (Behind i) → ⊥)
        → SoFar es places names held k i heads begins h → m < k
        → Suffice es places names held k → ⊥
    few_more k heads begins fails x low suffice = elim (cases_lt i k) [
      | inl below ↦ x.few below suffice
      | inr up ↦
          let here : k ≡ i = omega (arith, up, low, next) in
          let s : Suffice es places names held i = subst (Suffice es places names held) here
          suffice in
          fails (x.back up).course (far_places es places i (Behind i) (omega (arith, next)) s.far)
    ]

    there : (k : ℕ) → k ≤ m → Contains (drop k names) w
    there k up = (
      m - k,
      (let z = length-drop k names in omega (arith, z, up, within)),
      get_or-drop k names (m - k) w ∙ (ap (λ n. get_or names n w)
          (let z : k + (m - k) ≡ m = omega (arith, up) in z) ∙ is),
    )

    module _ (k : ℕ) (settled : AreSettled (drop k names) held) (heads more : List Head)
        (begins : List ℕ)
        (fails : AreBegins es (Behind i) begins → ReachPlaces es places (Behind i) → ⊥)
        {old mid new : Option History}
        (so_far : Adds old mid (Leads (anyhow (SparesFiles (drop k names)))
        (HasFiles (drop k names) held)
        (SoFar es places names held k i heads begins)))
        (own : Adds mid new (Every (IsOf ReadsFile))) where
      one_more_so : (after : List ℕ)
          → ((f : Option File) → IsSmallFile f
          → Adds mid new (Leads (anyhow (SparesFile w)) (Has w f)
          (TookNext es places w f m heads more begins after (Ok true))))
          → Adds old new (Leads (anyhow (SparesFiles (drop k names)))
          (HasFiles (drop k names) held)
          (SoFar es places names held k m more after))
      one_more_so after raw = leads_then so_far (elim (cases_lt m k) [
        | inl low ↦
            adds_as (Leads (anyhow (SparesFiles (drop k names)))
            (SoFar es places names held k i heads begins)
            (SoFar es places names held k m more after))
            (files_stay (drop k names) held settled own)
            (λ added history x. record {
              leads = λ s h. record {
                files = x.leads s h.files;
                back = λ up. absurd (let z : ⊥ = omega (arith, up, low) in z);
                few = λ below. few_more k heads begins fails h below;
              };
              own = x.own;
            })
        | inr up ↦
            adds_as (Leads (anyhow (SparesFiles (drop k names)))
            (SoFar es places names held k i heads begins)
            (SoFar es places names held k m more after))
            (among (drop k names) held w settled (there k up)
            (raw (held w) (settled w (there k up)).1) own)
            (λ added history x. record {
              leads = λ s h.
                  let y = x.leads s h.files in record {
                    files = y.0;
                    back = λ same. back_more heads more begins after y.1.1 y.1.2 y.1.3 fails
                        (h.back (omega (arith, up, next)));
                    few = λ below. few_more k heads begins fails h below;
                  };
              own = x.own;
            })
      ])

      pub one_more : (after : List ℕ) (b : Bool) → b ≡ true
          → ((f : Option File) → IsSmallFile f
          → Adds mid new (Leads (anyhow (SparesFile w)) (Has w f)
          (TookNext es places w f m heads more begins after (Ok b))))
          → Adds old new (Leads (anyhow (SparesFiles (drop k names)))
          (HasFiles (drop k names) held)
          (SoFar es places names held k m more after))
      one_more after true is raw = one_more_so after raw
      one_more after false wrong raw = absurd (true≢false (sym wrong))

      one_wrong_so : (after : List ℕ)
          → ((f : Option File) → IsSmallFile f
          → Adds mid new (Leads (anyhow (SparesFile w)) (Has w f)
          (TookNext es places w f m heads more begins after (Ok false))))
          → Adds old new (Leads (anyhow (SparesFiles (drop k names)))
          (HasFiles (drop k names) held)
          (ReadBack es places names held k more (Ok false)))
      one_wrong_so after raw = leads_then so_far (elim (cases_lt m k) [
        | inl low ↦
            adds_as (Leads (anyhow (SparesFiles (drop k names)))
            (SoFar es places names held k i heads begins)
            (ReadBack es places names held k more (Ok false)))
            (files_stay (drop k names) held settled own)
            (λ added history x. record {
              leads = λ s h. few_more k heads begins fails h low;
              own = x.own;
            })
        | inr up ↦
            adds_as (Leads (anyhow (SparesFiles (drop k names)))
            (SoFar es places names held k i heads begins)
            (ReadBack es places names held k more (Ok false)))
            (among (drop k names) held w settled (there k up)
            (raw (held w) (settled w (there k up)).1) own)
            (λ added history x. record {
              leads = λ s h suffice.
                  let y = x.leads s h.files in
                  let cut = split k m up (omega (arith, within)) in
                  y.1 cut.0 (Behind i) (h.back (omega (arith, up, next))).course
                  (each_at (IsSound chunk_limit held) (drop k names) w suffice.sound (there k up))
                  (subst (AllRunBack es) (cut.1 ∙ ap (λ l. cut.0 ++ l) behind_more) suffice.run);
              own = x.own;
            })
      ])

      pub one_wrong : (after : List ℕ) (b : Bool) → b ≡ false
          → ((f : Option File) → IsSmallFile f
          → Adds mid new (Leads (anyhow (SparesFile w)) (Has w f)
          (TookNext es places w f m heads more begins after (Ok b))))
          → Adds old new (Leads (anyhow (SparesFiles (drop k names)))
          (HasFiles (drop k names) held)
          (ReadBack es places names held k more (Ok false)))
      one_wrong after true wrong raw = absurd (true≢false wrong)
      one_wrong after false is raw = one_wrong_so after raw

-- nothing is said after a refusal
pub not_read : {P : History → History → Type 0} (es : List End) (places : List ℕ)
    (names : List (List ℕ)) (held : Files) (k : ℕ)
    (heads : List Head) (fault : JobFault) {old new : Option History} → Adds old new P
    → Adds old new (Leads (anyhow (SparesFiles (drop k names))) (HasFiles (drop k names) held)
    (ReadBack es places names held k heads (Err fault)))
not_read es places names held k heads fault told =
    adds_as (Leads (anyhow (SparesFiles (drop k names))) (HasFiles (drop k names) held)
    (ReadBack es places names held k heads (Err fault)))
    told (λ added history p. record { leads = λ s h. tt; own = owned_anyhow added history })
