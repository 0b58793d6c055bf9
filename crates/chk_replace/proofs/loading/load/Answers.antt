use Rattle.std.proofs.Common.{◌≡◌, ℕ, ◌+◌, ◌∙◌, ◌++◌, [], length, length-append, refl, sym, ap, subst, arith, Ok, Err, Some, None, Option, List}
use Rattle.std.proofs.lemmas.List.{nil_from_length}
use Rattle.std.proofs.lemmas.Result.{err_from_is_err_and}
use Rattle.chk_site.specs.declared.acts.OutsideFault.TheVariants.{NoMemory as no_memory}
use Rattle.chk_site.specs.History.{Every}
use Rattle.chk_site.specs.Site.{LastFailed, OutsideCause}
use Rattle.chk_site.proofs.Runs.{adds_as, adds_none}
use Rattle.chk_replace.specs.Load.{IsGone, IsLook, ReadOnce, gone, at_end, ended, unkept, went_on}
use Rattle.chk_replace.proofs.Pieces.{load_begins, load_goes_on, load_ends, load_misses, looks_then, looks_last, not_loaded, gone_then}
use Rattle.chk_replace.proofs.loading.load.Goals as goal

pub loop-bytes-init : goal.loop-bytes-init
loop-bytes-init g c =
    rw c.new-bytes.ensures
    (record {
      whole = λ file small. load_begins c.args.name.now file (g.S.Site.told c.args.site.now);
      script = λ result new r. r;
      reads = adds_none (g.S.Site.told c.args.site.now) (Every (IsLook c.args.who.now c.args.name.now)) (λ history. tt);
      count = refl;
    })

pub returns-in_err-given : goal.returns-in_err-given
returns-in_err-given g c =
    let name = c.args.name.now in
    let fault = c.in_err-given.field-0.0 in
    let reads = looks_then c.args.who.now name c.loop-bytes.invariant.reads c.in_err-given.ensures.reads in
    let p = err_from_is_err_and c.from_residual.result c.from_residual.ensures.1 in
    rw (p.1, p.2)
    (record {
      whole = λ file small. not_loaded name file fault reads;
      script = c.loop-bytes.invariant.script (Err fault) (g.S.Site.told c.piece_at.new.site) (ended (subst (λ (n : ℕ). ReadOnce c.args.who.now name n (Err fault) (g.S.Site.told c.loop-bytes.site) (g.S.Site.told c.piece_at.new.site)) c.len.ensures (c.in_err-given.ensures.script)));
      reads = reads;
      none = adds_as (IsGone name (Err fault)) reads (λ a history x. tt);
      last = looks_last (Option (List ℕ)) c.args.who.now name (Err fault) c.loop-bytes.invariant.reads c.in_err-given.ensures.last;
      cause =
          subst (λ (n : ℕ). OutsideCause {T = Option (List ℕ)} n (g.S.Site.fault_count c.piece_at.new.site) (Err fault))
          c.loop-bytes.invariant.count c.in_err-given.ensures.cause;
    })

pub returns-in_default : goal.returns-in_default
returns-in_default g c =
    let name = c.args.name.now in
    let reads = looks_then c.args.who.now name c.loop-bytes.invariant.reads c.in_ok-given.ensures.reads in
    record {
      whole = λ file small.
          load_misses name c.loop-bytes.bytes c.len.result file (c.loop-bytes.invariant.whole file small)
          (rw c.in_default.is at (c.in_ok-given.ensures.whole file));
      script = c.loop-bytes.invariant.script (Ok None) (g.S.Site.told c.piece_at.new.site) (gone (subst (λ (n : ℕ). ReadOnce c.args.who.now name n (Ok None) (g.S.Site.told c.loop-bytes.site) (g.S.Site.told c.piece_at.new.site)) c.len.ensures (rw c.in_default.is at c.in_ok-given.ensures.script)));
      reads = reads;
      none = gone_then name c.loop-bytes.invariant.reads (rw c.in_default.is at c.in_ok-given.ensures.none);
      last = adds_as (LastFailed {T = Option (List ℕ)} (Ok None)) reads (λ a history x. tt);
      cause = c.in_ok-given.ensures.cause ∙ c.loop-bytes.invariant.count;
    }

pub returns-then-len-eq0 : goal.returns-then-len-eq0
returns-then-len-eq0 g c =
    let name = c.args.name.now in
    let bytes = c.loop-bytes.bytes in
    let empty : length c.in-Some.piece ≡ 0 = sym c.len-in-loop-bytes.ensures ∙ c.if-len-eq0.true in
    let reads = looks_then c.args.who.now name c.loop-bytes.invariant.reads c.in_ok-given.ensures.reads in
    record {
      whole = λ file small.
          load_ends name bytes c.in-Some.piece c.len.result file c.len.ensures empty small (c.loop-bytes.invariant.whole file small)
          (rw c.in-Some.is at (c.in_ok-given.ensures.whole file));
      script = c.loop-bytes.invariant.script (Ok (Some bytes)) (g.S.Site.told c.piece_at.new.site) (at_end (subst (λ (n : ℕ). ReadOnce c.args.who.now name n (Ok (Some [])) (g.S.Site.told c.loop-bytes.site) (g.S.Site.told c.piece_at.new.site)) c.len.ensures (rw (nil_from_length c.in-Some.piece empty) at (rw c.in-Some.is at c.in_ok-given.ensures.script))));
      reads = reads;
      none = adds_as (IsGone name (Ok (Some bytes))) reads (λ a history x. tt);
      last = adds_as (LastFailed {T = Option (List ℕ)} (Ok (Some bytes))) reads (λ a history x. tt);
      cause = c.in_ok-given.ensures.cause ∙ c.loop-bytes.invariant.count;
    }

pub returns-in_err-push_all : goal.returns-in_err-push_all
returns-in_err-push_all g c =
    let name = c.args.name.now in
    let reads = looks_then c.args.who.now name c.loop-bytes.invariant.reads c.in_ok-given.ensures.reads in
    let p = err_from_is_err_and c.from_residual-in_err-push_all.result c.from_residual-in_err-push_all.ensures.1 in
    rw (p.1, p.2)
    (record {
      whole = λ file small. not_loaded name file no_memory reads;
      script = c.loop-bytes.invariant.script (Err no_memory) (g.S.Site.told c.piece_at.new.site) (unkept c.in-Some.piece (subst (λ (n : ℕ). ReadOnce c.args.who.now name n (Ok (Some c.in-Some.piece)) (g.S.Site.told c.loop-bytes.site) (g.S.Site.told c.piece_at.new.site)) c.len.ensures (rw c.in-Some.is at c.in_ok-given.ensures.script)));
      reads = reads;
      none = adds_as (IsGone name (Err no_memory)) reads (λ a history x. tt);
      last = adds_as (LastFailed {T = Option (List ℕ)} (Err no_memory)) reads (λ a history x. tt);
      cause = c.in_ok-given.ensures.cause ∙ c.loop-bytes.invariant.count;
    })

pub loop-bytes-smaller : goal.loop-bytes-smaller
loop-bytes-smaller g c =
    let bytes = c.loop-bytes.bytes in
    let more : c.push_all.new.self ≡ bytes ++ c.in-Some.piece =
    rw c.as_slice.ensures at c.in_ok-push_all.ensures.ok in
    let sum : length c.push_all.new.self ≡ length bytes + length c.in-Some.piece =
    ap length more ∙ length-append bytes c.in-Some.piece in
    let here : c.len.result ≡ length bytes = c.len.ensures in
    let some : c.len-in-loop-bytes.result ≡ length c.in-Some.piece = c.len-in-loop-bytes.ensures in
    omega arith

pub loop-bytes-preserved : goal.loop-bytes-preserved
loop-bytes-preserved g c =
    let name = c.args.name.now in
    let bytes = c.loop-bytes.bytes in
    let more : c.push_all.new.self ≡ bytes ++ c.in-Some.piece =
    rw c.as_slice.ensures at c.in_ok-push_all.ensures.ok in
    rw more
    (record {
      whole = λ file small.
          load_goes_on name bytes c.in-Some.piece c.len.result file c.len.ensures (c.loop-bytes.invariant.whole file small)
          (rw c.in-Some.is at (c.in_ok-given.ensures.whole file));
      script = λ result new r. c.loop-bytes.invariant.script result new (went_on c.in-Some.piece (subst (λ (n : ℕ). ReadOnce c.args.who.now name n (Ok (Some c.in-Some.piece)) (g.S.Site.told c.loop-bytes.site) (g.S.Site.told c.piece_at.new.site)) c.len.ensures (rw c.in-Some.is at c.in_ok-given.ensures.script)) r);
      reads = looks_then c.args.who.now name c.loop-bytes.invariant.reads c.in_ok-given.ensures.reads;
      count = c.in_ok-given.ensures.cause ∙ c.loop-bytes.invariant.count;
    })
