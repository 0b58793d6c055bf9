-- Records that are read back among all files.
use Rattle.std.proofs.Common.{◌≡◌, ℕ, zero, suc, ◌+◌, ◌<◌, List, [], ◌∷◌, ◌++◌, length, take, drop, get_or, Option, Some, None, Ok, Err, Result, refl, sym, ◌∙◌, ap, subst, arith, append_assoc, length-append}
use Rattle.std.specs.Prelude.{Contains, filter_map, option_map}
use Rattle.std.specs.List.{cons_option}
use Rattle.std.proofs.lemmas.List.{append_cancel_right}
use Rattle.std.proofs.lemmas.Option.{same_Some}
use Rattle.std.proofs.Math.Seq.{get_or-append_seam}
use Rattle.chk_site.specs.Files.{File, Files}
use Rattle.chk_site.specs.History.{History, Others}
use Rattle.chk_site.specs.Site.{Adds}
use Rattle.chk_site.specs.Runs.{anyhow, Leads}
use Rattle.chk_site.proofs.Leads.{leads_none, owned_anyhow}
use Rattle.chk_replace.specs.Load.{Has}
use Rattle.chk_chunk.specs.Keys.{Chunk}
use Rattle.chk_seqfile.specs.Entries.{Placed, records_of}
use Rattle.chk_world.specs.Books.{chunk_of}
use Rattle.chk_world.specs.JobSteps.{SparesFile}
use Rattle.chk_world.proofs.Each.{Each, each_at, each_from}
use Rattle.chk_record_index.specs.Heads.{Head, head_of, head_at, heads_in}
use Rattle.chk_record_index.specs.Order.{no_head}
use Rattle.chk_record_index.specs.Pieces.{bytes_in}
use Rattle.chk_record_index.specs.declared.fault.JobFault.{JobFault}
use Rattle.chk_record_index.specs.declared.fault.JobFault.TheVariants.{Outside, Damaged, Spent, NoMemory}
use Rattle.chk_record_reader.specs.declared.reader.RecordReader.{RecordReader}
use Rattle.chk_record_reader.specs.Spans.{StaysAtOk}
use Rattle.chk_record_reader.specs.ReadBack.{value_at, HoldsNothing, IsWindowOf, CanRead, HasRead}
use Rattle.chk_record_reader.specs.Segments.{SparesFiles, heads_from}
use Rattle.chk_record_reader.specs.Archives.{file_at, AreWindows, IsKnown, CanReadAll, HasReadAll}
use Rattle.chk_record_reader.proofs.Frames.{spares_one}
use Rattle.chk_world.proofs.BooksTrue.{each_append}

-- several accounts of the same steps
pub adds_all : {X : Type 0} {old new : Option History} {P : History → History → Type 0} {Q : X
    → History → History → Type 0} (R : History → History → Type 0)
    → Adds old new P → ((x : X) → Adds old new (Q x))
    → ((added history : History) → P added history → ((x : X) → Q x added history)
    → R added history) → Adds old new R
adds_all {Q = Q} R p q join = record {
  told = λ history e.
      let x = p.told history e in (
        x.0,
        x.1,
        join x.0 history x.2
            (λ v.
            let y = (q v).told history e in
            let same : y.0 ≡ x.0 = append_cancel_right y.0 x.0 history (same_Some (y.0 ++ history)
            (x.0 ++ history) (sym y.1 ∙ x.1)) in
            subst (λ (a : History). Q v a history) same y.2),
      );
  untold = p.untold;
}

pub each_get : {X : Type 0} (P : X → Type 0) (xs : List X) → Each P xs → (i : ℕ) (d : X)
    → i < length xs → P (get_or xs i d)
each_get P [] all i d within = absurd (let z : ⊥ = omega arith in z)
each_get P (x ∷ xs) all zero d within = all.0
each_get P (x ∷ xs) all (suc i) d within = each_get P xs all.1 i d (omega (arith, within))

-- ---- the heads of all files

pub numbered : (most number : ℕ) (rs : List Placed) → Each (λ (h : Head). h.file ≡ number)
    (filter_map (head_at most number) rs)
numbered most number [] = tt
numbered most number (r ∷ rs) = go (numbered most number rs) (chunk_of most r)
  where
    go : Each (λ (h : Head). h.file ≡ number) (filter_map (head_at most number) rs) →
        (o : Option Chunk)
        → Each (λ (h : Head). h.file ≡ number) (cons_option (option_map (head_of number r.at) o)
        (filter_map (head_at most number) rs))
    go rest None = rest
    go rest (Some c) = (refl, rest)

pub known_from : (most : ℕ) (names : List (List ℕ)) (held : Files) (number : ℕ) (front ws : List
    (List ℕ)) → number ≡ length front → names ≡ front ++ ws
    → Each (IsKnown most names held) (heads_from most held number ws)
known_from most names held number front [] count split = tt
known_from most names held number front (w ∷ ws) count split =
    each_append (IsKnown most names held) (heads_in most number (bytes_in (held w)))
    (heads_from most held (number + 1) ws)
    (each_from (IsKnown most names held) (heads_in most number (bytes_in (held w))) one)
    (known_from most names held (number + 1) (front ++ w ∷ []) ws (omega
    (arith, count, length-append front (w ∷ [])))
    (split ∙ sym (append_assoc front (w ∷ []) ws)))
  where
    here : get_or names number [] ≡ w
    here = ap (λ l. get_or l number []) split ∙ (ap (λ n. get_or (front ++ w ∷ ws) n []) count
        ∙ get_or-append_seam front w ws [])

    one : (h : Head) → Contains (heads_in most number (bytes_in (held w))) h
        → IsKnown most names held h
    one h is =
        let n : h.file ≡ number = each_at (λ (k : Head). k.file ≡ number) (heads_in most number
        (bytes_in (held w))) h (numbered most number (records_of (bytes_in (held w)))) is in
        let long = ap length split ∙ length-append front (w ∷ ws) in
        record {
          file = omega arith;
          known =
              subst (λ m. Contains (heads_in most m (bytes_in (file_at names held m))) h) (sym n)
              (subst (λ v. Contains (heads_in most number (bytes_in (held v))) h) (sym here) is);
        }

-- a reader that holds nothing
pub no_windows : (names : List (List ℕ)) (held : Files) (r : RecordReader) → HoldsNothing r
    → AreWindows names held r
no_windows names held r none number same =
    none ∙ sym (ap (λ (n : ℕ). take n (drop r.from (bytes_in (file_at names held number))))
    (ap length none))

-- ---- one fetch

module _ (most : ℕ) (names : List (List ℕ)) (held : Files) (heads : List Head) (index : ℕ)
    (within : index < length heads) (w : List ℕ)
    (one : Contains names w) (is : w ≡ get_or names (get_or heads index no_head).file [])
    (old new : RecordReader) where
  said : (result : Result (Unit {0}) JobFault) (added history : History)
      → Leads (anyhow (SparesFile w)) (CanRead most w (held w) (get_or heads index no_head) old)
      (HasRead w (held w) (get_or heads index no_head) new result) added history
      → ((v : List ℕ) → Leads (anyhow (SparesFile v)) (Has v (held v)) (StaysAtOk v
      (held v) result) added history)
      → Others (SparesFiles names) added history → CanReadAll most names held heads old history
      → HasReadAll most names held heads (get_or heads index no_head) new result (added ++ history)
  said result added history x ys s can = go result x ys
    where
      known : IsKnown most names held (get_or heads index no_head)
      known = each_get (IsKnown most names held) heads can.known index no_head within

      same_file : file_at names held (get_or heads index no_head).file ≡ held w
      same_file = ap held (sym is)

      ready : CanRead most w (held w) (get_or heads index no_head) old history
      ready = record {
        has = can.files w one;
        known = subst (λ o. Contains (heads_in most (get_or heads index no_head).file (bytes_in o))
            (get_or heads index no_head)) same_file known.known;
        window = subst (λ o. IsWindowOf (get_or heads index no_head).file o old) same_file
            (can.windows (get_or heads index no_head).file);
      }

      go : (result : Result (Unit {0}) JobFault)
          → Leads (anyhow (SparesFile w)) (CanRead most w (held w)
          (get_or heads index no_head) old) (HasRead w (held w)
          (get_or heads index no_head) new result) added history
          → ((v : List ℕ) → Leads (anyhow (SparesFile v)) (Has v (held v)) (StaysAtOk v
          (held v) result) added history)
          → HasReadAll most names held heads (get_or heads index no_head) new result
          (added ++ history)
      go (Ok value) x ys =
          let y = x.leads (spares_one names w one added history s) ready in (
            record {
              files = λ v there. (ys v).leads (spares_one names v there added history s)
                  (can.files v there);
              known = can.known;
              windows = λ n same.
                  y.2 y.1 ∙ ap (λ o. take (length new.bytes) (drop new.from (bytes_in o)))
                  (sym same_file ∙ ap (file_at names held) (sym y.1 ∙ same));
            },
            y.3 ∙ ap (λ o. value_at (get_or heads index no_head).at (bytes_in o)) (sym same_file),
          )
      go (Err (Outside call)) x ys = tt
      go (Err (Damaged name at)) x ys = x.leads (spares_one names w one added history s) ready
      go (Err (Spent n)) x ys = tt
      go (Err NoMemory) x ys = tt

  pub read_all : (result : Result (Unit {0}) JobFault) {now next : Option History}
      → Adds now next (Leads (anyhow (SparesFile w)) (CanRead most w (held w)
      (get_or heads index no_head) old) (HasRead w (held w)
      (get_or heads index no_head) new result))
      → ((v : List ℕ) (file : Option File) → Adds now next (Leads (anyhow (SparesFile v))
      (Has v file) (StaysAtOk v file result)))
      → Adds now next (Leads (anyhow (SparesFiles names)) (CanReadAll most names held heads old)
      (HasReadAll most names held heads (get_or heads index no_head) new result))
  read_all result raw stays =
      adds_all (Leads (anyhow (SparesFiles names)) (CanReadAll most names held heads old)
      (HasReadAll most names held heads (get_or heads index no_head) new result))
      raw (λ v. stays v (held v))
      (λ added history x ys. record {
        leads = λ s can. said result added history x ys s can;
        own =
            owned_anyhow added history;
      })

-- a head of no file
pub not_read_all : (most : ℕ) (names : List (List ℕ)) (held : Files) (heads : List Head) (h : Head)
    (old new : RecordReader) (now : Option History)
    → Adds now now (Leads (anyhow (SparesFiles names)) (CanReadAll most names held heads old)
    (HasReadAll most names held heads h new (Err NoMemory)))
not_read_all most names held heads h old new now = leads_none now (λ history can. tt)
