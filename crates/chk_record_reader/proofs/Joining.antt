-- The values of a stream's records, joined in the order of the heads.
use Rattle.std.proofs.Common.{◌≡◌, ℕ, ◌+◌, ◌<◌, Bool, true, false, List, [], ◌∷◌, ◌++◌, length, take, get_or, Option, Some, None, Ok, Err, refl, sym, ◌∙◌, ap, subst, arith, append_assoc, append-nil, length-append, if◌then◌else◌}
use Rattle.std.specs.Prelude.{map, flat_map, nat_le, ◌&&◌, ◌==◌}
use Rattle.std.proofs.lemmas.Grind.{flat_map-append}
use Rattle.std.proofs.lemmas.List.{take_more, map-append}
use Rattle.std.proofs.lemmas.Bool.{and_parts, eqb-true}
use Rattle.std.proofs.lemmas.Option.{none-some}
use Rattle.std.proofs.Math.Seq.{get_or-append_seam}
use Rattle.chk_site.specs.Files.{Files}
use Rattle.chk_site.specs.History.{History}
use Rattle.chk_site.specs.Site.{Adds}
use Rattle.chk_site.specs.Runs.{anyhow, Leads}
use Rattle.chk_site.proofs.Runs.{adds_as}
use Rattle.chk_site.proofs.Leads.{leads_as, leads_none, leads_then, owned_anyhow}
use Rattle.chk_chunk.specs.Keys.{Stream, chunk_begin}
use Rattle.chk_seqfile.specs.Entries.{records_of}
use Rattle.chk_world.specs.Books.{End, chunks_within, chunks_of_stream, values}
use Rattle.chk_world.specs.Jobs.{Run}
use Rattle.chk_world.proofs.Each.{Each}
use Rattle.chk_record_index.specs.Heads.{Head, heads_in}
use Rattle.chk_record_index.specs.Order.{no_head}
use Rattle.chk_record_index.specs.Pieces.{bytes_in}
use Rattle.chk_record_index.specs.declared.fault.JobFault.{JobFault}
use Rattle.chk_record_index.specs.declared.fault.JobFault.TheVariants.{Outside, Damaged, Spent, NoMemory}
use Rattle.chk_record_reader.specs.declared.reader.RecordReader.{RecordReader}
use Rattle.chk_record_reader.specs.ReadBack.{chunk_at, value_held, HoldsNothing}
use Rattle.chk_record_reader.specs.Segments.{SparesFiles, heads_from, chunks_in_files}
use Rattle.chk_record_reader.specs.Courses.{is_head_of, goes_on, first_break, first_head, reached}
use Rattle.chk_record_reader.specs.Archives.{file_at, IsKnown, CanReadAll, HasReadAll, value_in, chunk_in, values_in, CanJoin, HasJoined, HasSoFar, JoinedOne}
use Rattle.chk_record_reader.proofs.Records.{chunks_of_heads, heads_begin}
use Rattle.chk_record_reader.proofs.AllRead.{numbered, known_from, no_windows}
use Rattle.chk_world.proofs.BooksTrue.{each_append}

-- ---- one after the other

values_more : (s : Stream) (names : List (List ℕ)) (held : Files) (heads : List Head) (i : ℕ)
    → i < length heads
    → values_in s names held (take (i + 1) heads)
    ≡ values_in s names held (take i heads) ++ (if is_head_of s
    (get_or heads i no_head) then value_in names held (get_or heads i no_head) else [])
values_more s names held heads i within =
    let f : Head → List ℕ = λ h. if is_head_of s h then value_in names held h else [] in
    let h = get_or heads i no_head in
    ap (flat_map f) (take_more heads i no_head within)
    ∙ (flat_map-append f (take i heads) (h ∷ []) ∙ ap (λ l. flat_map f (take i heads) ++ l)
    (append-nil (f h)))

module _ (s : Stream) (most : ℕ) (names : List (List ℕ)) (held : Files) (heads : List Head) where
  pub none_joined : (r : RecordReader) (bytes : List ℕ) (now : Option History) → HoldsNothing r
      → bytes ≡ []
      → Adds now now (Leads (anyhow (SparesFiles names)) (CanJoin most names held heads)
      (HasSoFar s most names held heads r bytes 0))
  none_joined r bytes now none empty =
      leads_none now (λ h can. (
        record {
          files = can.files;
          known = subst (Each (IsKnown most names held)) (sym can.are)
              (known_from most names held 0 [] names refl refl);
          windows = no_windows names held r none;
        },
        empty,
      ))

  -- a head of another stream
  pub other_joined : (r : RecordReader) (bytes : List ℕ) (i : ℕ) (now : Option History)
      → i < length heads → is_head_of s (get_or heads i no_head) ≡ false
      → Adds now now (Leads (anyhow (SparesFiles names))
      (HasSoFar s most names held heads r bytes i) (JoinedOne s most names held heads r bytes i
      (Ok tt)))
  other_joined r bytes i now within other =
      leads_none now
      (λ h x. (
        x.0,
        x.1
            ∙ (sym (append-nil (values_in s names held (take i heads)))
            ∙ (ap (λ b. values_in s names held (take i heads) ++ (if b then value_in names held
            (get_or heads i no_head) else [])) (sym other)
            ∙ sym (values_more s names held heads i within))),
      ))

  -- the value of one more record
  pub one_joined : (r q : RecordReader) (bytes more : List ℕ) (i : ℕ) {old new : Option History}
      → i < length heads
      → is_head_of s (get_or heads i no_head) ≡ true → more ≡ bytes ++ value_held q
      → Adds old new (Leads (anyhow (SparesFiles names)) (CanReadAll most names held heads r)
      (HasReadAll most names held heads (get_or heads i no_head) q (Ok tt)))
      → Adds old new (Leads (anyhow (SparesFiles names))
      (HasSoFar s most names held heads r bytes i) (JoinedOne s most names held heads q more i
      (Ok tt)))
  one_joined r q bytes more i within mine is read =
      adds_as
      (Leads (anyhow (SparesFiles names)) (HasSoFar s most names held heads r bytes i)
      (JoinedOne s most names held heads q more i (Ok tt))) read
      (λ added history x. record {
        leads = λ others h.
            let y = x.leads others h.0 in (
              y.0,
              is
                  ∙ (ap (λ l. l ++ value_held q) h.1
                  ∙ (ap (λ l. values_in s names held (take i heads) ++ l)
                  (y.1 ∙ ap (λ b. if b then value_in names held (get_or heads i no_head) else [])
                  (sym mine))
                  ∙ sym (values_more s names held heads i within))),
            );
        own = x.own;
      })

  pub not_one : (r q : RecordReader) (bytes more : List ℕ) (i : ℕ) (h : Head) (fault : JobFault)
      {old new : Option History}
      → Adds old new (Leads (anyhow (SparesFiles names)) (CanReadAll most names held heads r)
      (HasReadAll most names held heads h q (Err fault)))
      → Adds old new (Leads (anyhow (SparesFiles names))
      (HasSoFar s most names held heads r bytes i) (JoinedOne s most names held heads q more i
      (Err fault)))
  not_one r q bytes more i h fault read =
      adds_as (Leads (anyhow (SparesFiles names)) (HasSoFar s most names held heads r bytes i)
      (JoinedOne s most names held heads q more i (Err fault))) read
      (λ added history x. record {
        leads = λ others g. said fault (added ++ history)
            (x.leads others g.0);
        own = x.own;
      })
    where
      said : (fault : JobFault) (history : History) → HasReadAll most names held heads h q
          (Err fault) history
          → JoinedOne s most names held heads q more i (Err fault) history
      said (Outside call) history x = tt
      said (Damaged name at) history x = x
      said (Spent n) history x = tt
      said NoMemory history x = tt

  pub no_memory_one : {P : History → History → Type 0} (r q : RecordReader) (bytes more : List ℕ)
      (i : ℕ) {old new : Option History} → Adds old new P
      → Adds old new (Leads (anyhow (SparesFiles names))
      (HasSoFar s most names held heads r bytes i) (JoinedOne s most names held heads q more i
      (Err NoMemory)))
  no_memory_one r q bytes more i told =
      adds_as (Leads (anyhow (SparesFiles names)) (HasSoFar s most names held heads r bytes i)
      (JoinedOne s most names held heads q more i (Err NoMemory))) told
      (λ added history p. record { leads = λ o h. tt; own = owned_anyhow added history })

  pub not_joined : (r q : RecordReader) (bytes more : List ℕ) (i : ℕ) (fault : JobFault)
      {old mid new : Option History}
      → Adds old mid (Leads (anyhow (SparesFiles names)) (CanJoin most names held heads)
      (HasSoFar s most names held heads r bytes i))
      → Adds mid new (Leads (anyhow (SparesFiles names))
      (HasSoFar s most names held heads r bytes i) (JoinedOne s most names held heads q more i
      (Err fault)))
      → Adds old new (Leads (anyhow (SparesFiles names)) (CanJoin most names held heads)
      (HasJoined s names held heads (Err fault)))
  not_joined r q bytes more i fault so_far told = leads_as (λ h x. x) (λ h x. said fault h x)
      (leads_then so_far told)
    where
      said : (fault : JobFault) (history : History) → JoinedOne s most names held heads q more i
          (Err fault) history → HasJoined s names held heads (Err fault) history
      said (Outside call) history x = tt
      said (Damaged name at) history x = x
      said (Spent n) history x = tt
      said NoMemory history x = tt

  pub all_joined : (r : RecordReader) (bytes : List ℕ) (i : ℕ) {old new : Option History}
      → take i heads ≡ heads
      → Adds old new (Leads (anyhow (SparesFiles names)) (CanJoin most names held heads)
      (HasSoFar s most names held heads r bytes i))
      → Adds old new (Leads (anyhow (SparesFiles names)) (CanJoin most names held heads)
      (HasJoined s names held heads (Ok bytes)))
  all_joined r bytes i all so_far = leads_as (λ h x. x) (λ h x. (
    x.0.files,
    x.1 ∙ ap
        (values_in s names held) all,
  )) so_far

-- ---- the chunks for which the heads stand

map_same : {X Y : Type 0} (f g : X → Y) (xs : List X) → Each (λ x. f x ≡ g x) xs → map f xs
    ≡ map g xs
map_same f g [] all = refl
map_same f g (x ∷ xs) all = ap (λ y. y ∷ map f xs) all.0 ∙ ap (λ ys. g x ∷ ys)
    (map_same f g xs all.1)

each_of : {X : Type 0} (P Q : X → Type 0) (xs : List X) → ((x : X) → P x → Q x) → Each P xs
    → Each Q xs
each_of P Q [] f all = tt
each_of P Q (x ∷ xs) f all = (f x all.0, each_of P Q xs f all.1)

each_two : {X : Type 0} (P Q R : X → Type 0) (xs : List X) → ((x : X) → P x → Q x → R x)
    → Each P xs → Each Q xs → Each R xs
each_two P Q R [] f a b = tt
each_two P Q R (x ∷ xs) f a b = (f x a.0 b.0, each_two P Q R xs f a.1 b.1)

-- the head begins where its chunk does
abbrev pub BeginsSo : List (List ℕ) → Files → Head → Type 0
BeginsSo names held h = h.begin ≡ chunk_begin (chunk_in names held h)

module _ (most : ℕ) (names : List (List ℕ)) (held : Files) where
  here : (number : ℕ) (front : List (List ℕ)) (w : List ℕ) (ws : List (List ℕ)) → number
      ≡ length front → names ≡ front ++ w ∷ ws
      → file_at names held number ≡ held w
  here number front w ws count split =
      ap held (ap (λ l. get_or l number []) split ∙ (ap (λ n. get_or (front ++ w ∷ ws) n []) count
      ∙ get_or-append_seam front w ws []))

  at_file : (number : ℕ) (w : List ℕ) (h : Head) → file_at names held number ≡ held w → h.file
      ≡ number
      → chunk_in names held h ≡ chunk_at (bytes_in (held w)) h
  at_file number w h same file = ap (λ o. chunk_at (bytes_in o) h) (ap (file_at names held) file
      ∙ same)

  pub chunks_from : (number : ℕ) (front ws : List (List ℕ)) → number ≡ length front → names
      ≡ front ++ ws
      → map (chunk_in names held) (heads_from most held number ws) ≡ chunks_in_files most held ws
  chunks_from number front [] count split = refl
  chunks_from number front (w ∷ ws) count split =
      let all = bytes_in (held w) in
      let hs = heads_in most number all in
      map-append (chunk_in names held) hs (heads_from most held (number + 1) ws)
      ∙ (ap (λ l. l ++ map (chunk_in names held) (heads_from most held (number + 1) ws))
      (map_same (chunk_in names held) (chunk_at all) hs
      (each_of (λ (h : Head). h.file ≡ number) (λ h. chunk_in names held h ≡ chunk_at all h) hs
      (λ h file. at_file number w h (here number front w ws count split) file)
      (numbered most number (records_of all)))
      ∙ chunks_of_heads most number all)
      ∙ ap (λ l. chunks_within most all ++ l)
      (chunks_from (number + 1) (front ++ w ∷ []) ws (omega (
        arith,
        count,
        length-append front
            (w ∷ []),
      )) (split ∙ sym (append_assoc front (w ∷ []) ws))))

  pub begin_from : (number : ℕ) (front ws : List (List ℕ)) → number ≡ length front → names
      ≡ front ++ ws
      → Each (BeginsSo names held) (heads_from most held number ws)
  begin_from number front [] count split = tt
  begin_from number front (w ∷ ws) count split =
      let all = bytes_in (held w) in
      let hs = heads_in most number all in
      each_append (BeginsSo names held) hs (heads_from most held (number + 1) ws)
      (each_two (λ (h : Head). h.file ≡ number) (λ h. h.begin ≡ chunk_begin (chunk_at all h))
      (BeginsSo names held) hs
      (λ h file begins. begins ∙ ap chunk_begin (sym (at_file number w h
      (here number front w ws count split) file)))
      (numbered most number (records_of all)) (heads_begin most number all))
      (begin_from (number + 1) (front ++ w ∷ []) ws (omega (
        arith,
        count,
        length-append front
            (w ∷ []),
      )) (split ∙ sym (append_assoc front (w ∷ []) ws)))

-- ---- what they say of the stream

pub values_of : (s : Stream) (names : List (List ℕ)) (held : Files) (heads : List Head)
    → values_in s names held heads ≡ values (chunks_of_stream s (map (chunk_in names held) heads))
values_of s names held [] = refl
values_of s names held (h ∷ hs) = go (values_of s names held hs) (is_head_of s h) refl
  where
    go : values_in s names held hs ≡ values (chunks_of_stream s (map (chunk_in names held) hs)) →
        (b : Bool) → is_head_of s h ≡ b
        → (if b then value_in names held h else []) ++ values_in s names held hs
        ≡ values (if b then chunk_in names held h ∷ chunks_of_stream s (map
        (chunk_in names held) hs) else chunks_of_stream s (map (chunk_in names held) hs))
    go rest true e = ap (λ l. value_in names held h ++ l) rest
    go rest false e = rest

pub runs_from : (s : Stream) (e : End) (names : List (List ℕ)) (held : Files) (from : ℕ)
    (heads : List Head) → Each (BeginsSo names held) heads
    → first_break s e from heads ≡ None → Run e.start from (chunks_of_stream s (map
    (chunk_in names held) heads)) (reached s from heads)
runs_from s e names held from [] begins fine = refl
runs_from s e names held from (h ∷ hs) begins fine =
    go (λ (n : ℕ) f. runs_from s e names held n hs begins.1 f) (is_head_of s h)
    (goes_on e from h) refl refl fine
  where
    go : ((n : ℕ) → first_break s e n hs ≡ None → Run e.start n (chunks_of_stream s (map
        (chunk_in names held) hs)) (reached s n hs))
        → (b g : Bool) → is_head_of s h ≡ b → goes_on e from h ≡ g
        → (if b then (if g then first_break s e h.key.seq hs else Some h) else first_break s e from
        hs) ≡ None
        → Run e.start from
        (if b then chunk_in names held h ∷ chunks_of_stream s (map
        (chunk_in names held) hs) else chunks_of_stream s (map (chunk_in names held) hs))
        (if b then reached s h.key.seq hs else reached s from hs)
    go rest true true mine on fine =
        let p = and_parts (h.key.start == e.start)
        (h.begin == from && nat_le h.key.seq e.end) on in
        let q = and_parts (h.begin == from) (nat_le h.key.seq e.end) p.1 in (
          eqb-true h.key.start e.start p.0,
          sym begins.0
              ∙ eqb-true h.begin from q.0,
          rest h.key.seq fine,
        )
    go rest true false mine on fine = absurd (none-some h (sym fine))
    go rest false g mine on fine = rest from fine

pub none_of : (s : Stream) (names : List (List ℕ)) (held : Files) (heads : List Head)
    → first_head s heads ≡ None
    → chunks_of_stream s (map (chunk_in names held) heads) ≡ []
none_of s names held [] none = refl
none_of s names held (h ∷ hs) none = go (λ f. none_of s names held hs f) (is_head_of s h) refl none
  where
    go : (first_head s hs ≡ None → chunks_of_stream s (map (chunk_in names held) hs) ≡ []) →
        (b : Bool) → is_head_of s h ≡ b
        → (if b then Some h else first_head s hs) ≡ None
        → (if b then chunk_in names held h ∷ chunks_of_stream s (map
        (chunk_in names held) hs) else chunks_of_stream s (map (chunk_in names held) hs)) ≡ []
    go rest true e none = absurd (none-some h (sym none))
    go rest false e none = rest none
