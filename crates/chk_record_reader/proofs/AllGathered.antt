-- The heads of all files, file after file.
use Rattle.std.proofs.Common.{◌≡◌, ℕ, ◌+◌, ◌<◌, List, [], ◌∷◌, ◌++◌, length, take, drop, get_or, Option, Ok, Err, refl, sym, ◌∙◌, ap, subst, arith, append_assoc, append-nil}
use Rattle.std.specs.Prelude.{Contains}
use Rattle.std.proofs.lemmas.List.{take_more, take-append-drop, drop_more}
use Rattle.chk_site.specs.Files.{Files}
use Rattle.chk_site.specs.History.{History, Every}
use Rattle.chk_site.specs.Site.{Adds}
use Rattle.chk_site.specs.Runs.{anyhow, Leads}
use Rattle.chk_site.proofs.Runs.{adds_as}
use Rattle.chk_site.proofs.Leads.{leads_as, leads_none, leads_then, owned_anyhow}
use Rattle.chk_replace.specs.Load.{Has}
use Rattle.chk_world.specs.JobSteps.{IsOf, ReadsFile, SparesFile}
use Rattle.chk_world.proofs.Each.{Each}
use Rattle.chk_record_index.specs.Heads.{Head, heads_in}
use Rattle.chk_record_index.specs.Gathered.{Gathered}
use Rattle.chk_record_index.specs.Pieces.{bytes_in}
use Rattle.chk_record_index.specs.declared.fault.JobFault.{JobFault}
use Rattle.chk_record_index.specs.declared.fault.JobFault.TheVariants.{Outside, Damaged, Spent, NoMemory}
use Rattle.chk_record_reader.specs.Segments.{HasFiles, SparesFiles, AreSettled, IsSound, heads_from, IsBadFile, GatheredAll}
use Rattle.chk_record_reader.proofs.Frames.{among}
pub use Rattle.chk_book.proofs.Works.{refused_later as fails_later}

-- the files so far are sound, and these are their heads
abbrev pub HasHeads : ℕ → List (List ℕ) → Files → List (List ℕ) → List Head → History → Type 0
HasHeads most names held ws heads history =
    HasFiles names held history × Each (IsSound most held) ws × (heads ≡ heads_from most held 0 ws)

pub heads_more : (most : ℕ) (held : Files) (n : ℕ) (ws : List (List ℕ)) (w : List ℕ)
    → heads_from most held n (ws ++ w ∷ []) ≡ heads_from most held n ws ++ heads_in most
    (n + length ws) (bytes_in (held w))
heads_more most held n [] w =
    append-nil (heads_in most n (bytes_in (held w))) ∙ ap (λ m. heads_in most m (bytes_in
    (held w))) (let e : n ≡ n + 0 = omega arith in e)
heads_more most held n (x ∷ ws) w =
    ap (λ l. heads_in most n (bytes_in (held x)) ++ l) (heads_more most held (n + 1) ws w)
    ∙ (sym (append_assoc (heads_in most n (bytes_in (held x))) (heads_from most held (n + 1) ws)
    (heads_in most (n + 1 + length ws) (bytes_in (held w))))
    ∙ ap (λ m. heads_from most held n (x ∷ ws) ++ heads_in most m (bytes_in (held w)))
    (let e : n + 1 + length ws ≡ n + length (x ∷ ws) = omega arith in e))

each_more : {X : Type 0} (P : X → Type 0) (xs : List X) (x : X) → Each P xs → P x → Each P
    (xs ++ x ∷ [])
each_more P [] x all one = (one, tt)
each_more P (y ∷ xs) x all one = (all.0, each_more P xs x all.1 one)

pub none_gathered : (most : ℕ) (names : List (List ℕ)) (held : Files) (now : Option History)
    → Adds now now (Leads (anyhow (SparesFiles names)) (HasFiles names held)
    (HasHeads most names held [] []))
none_gathered most names held now = leads_none now (λ h files. (files, tt, refl))

-- one file behind others
module _ (most : ℕ) (names : List (List ℕ)) (held : Files) (i : ℕ) (w : List ℕ)
    (settled : AreSettled names held) (within : i < length names)
    (is : get_or names i w ≡ w) (heads more : List Head) (number : ℕ) (count_is : number ≡ length
    (take i names)) {old mid new : Option History}
    (so_far : Adds old mid (Leads (anyhow (SparesFiles names)) (HasFiles names held)
    (HasHeads most names held (take i names) heads)))
    (own : Adds mid new (Every (IsOf ReadsFile))) where
  one : Contains names w
  one = (i, within, is)

  pub next_names : take (i + 1) names ≡ take i names ++ w ∷ []
  next_names = take_more names i w within ∙ ap (λ x. take i names ++ x ∷ []) is

  pub one_more : (count : ℕ)
      → Adds mid new (Leads (anyhow (SparesFile w)) (Has w (held w)) (Gathered most w
      (held w) number heads more (Ok count)))
      → Adds old new (Leads (anyhow (SparesFiles names)) (HasFiles names held)
      (HasHeads most names held (take (i + 1) names) more))
  one_more count raw =
      leads_then so_far
      (adds_as (Leads (anyhow (SparesFiles names)) (HasHeads most names held (take i names) heads)
      (HasHeads most names held (take (i + 1) names) more))
      (among names held w settled one raw own)
      (λ added history x. record {
        leads = λ s h.
            let y = x.leads s h.0 in (
              y.0,
              subst (Each (IsSound most held)) (sym next_names) (each_more (IsSound most held)
                  (take i names) w h.1 y.1.1),
              y.1.2 ∙ (ap (λ l. l ++ heads_in most number (bytes_in (held w))) h.2
                  ∙ (ap (λ n. heads_from most held 0 (take i names) ++ heads_in most n (bytes_in
                  (held w))) (count_is ∙ (let e : length (take i names) ≡ 0 + length
                  (take i names) = omega arith in e))
                  ∙ (sym (heads_more most held 0 (take i names) w) ∙ ap (heads_from most held 0)
                  (sym next_names)))),
            );
        own = x.own;
      }))

  pub bad_one : (fault : JobFault)
      → Adds mid new (Leads (anyhow (SparesFile w)) (Has w (held w)) (Gathered most w
      (held w) number heads more (Err fault)))
      → Adds old new (Leads (anyhow (SparesFiles names)) (HasFiles names held)
      (GatheredAll most names held (Err fault)))
  bad_one fault raw =
      leads_then so_far
      (adds_as (Leads (anyhow (SparesFiles names)) (HasHeads most names held (take i names) heads)
      (GatheredAll most names held (Err fault)))
      (among names held w settled one raw own)
      (λ added history x. record {
        leads = λ s h. said fault (added ++ history) h.1
            (x.leads s h.0).1;
        own = x.own;
      }))
    where
      split : names ≡ take i names ++ w ∷ drop (i + 1) names
      split = sym (take-append-drop i names) ∙ ap (λ l. take i names ++ l)
          (drop_more names i w within ∙ ap (λ x. x ∷ drop (i + 1) names) is)

      said : (fault : JobFault) (history : History) → Each (IsSound most held) (take i names)
          → Gathered most w (held w) number heads more (Err fault) history
          → GatheredAll most names held (Err fault) history
      said (Outside call) history sound g = tt
      said (Damaged which at) history sound g =
          subst (λ n. IsBadFile most held names n at) (sym g.1)
          (record {
            front = take i names;
            back = drop
                (i + 1) names;
            split = split;
            sound = sound;
            bad = g.2;
          })
      said (Spent n) history sound g = tt
      said NoMemory history sound g = tt

-- nothing is said after another refusal
pub not_all : {P : History → History → Type 0} (most : ℕ) (names : List (List ℕ)) (held : Files)
    {old new : Option History} → Adds old new P
    → Adds old new (Leads (anyhow (SparesFiles names)) (HasFiles names held)
    (GatheredAll most names held (Err NoMemory)))
not_all most names held told =
    adds_as (Leads (anyhow (SparesFiles names)) (HasFiles names held) (GatheredAll most names held
    (Err NoMemory))) told
    (λ added history p. record { leads = λ s h. tt; own = owned_anyhow added history })

pub all_gathered : (most : ℕ) (names : List (List ℕ)) (held : Files) (ws : List (List ℕ))
    (heads : List Head) {old new : Option History} → ws ≡ names
    → Adds old new (Leads (anyhow (SparesFiles names)) (HasFiles names held)
    (HasHeads most names held ws heads))
    → Adds old new (Leads (anyhow (SparesFiles names)) (HasFiles names held)
    (GatheredAll most names held (Ok heads)))
all_gathered most names held ws heads all told =
    leads_as (λ h x. x)
    (λ h x. (
      x.0,
      subst (Each (IsSound most held)) all x.1,
      x.2 ∙ ap
          (heads_from most held 0) all,
    )) told
