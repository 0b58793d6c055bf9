use Rattle.std.proofs.Common.{◌≡◌, List, Option, ℕ, [], Ok, Err, ◌∙◌, ap, refl}
use Rattle.std.specs.Prelude.{unwrap_or}
use Rattle.std.proofs.lemmas.Result.{err_from_is_err_and}
use Rattle.chk_salvage.specs.Readers.{items_left}
use Rattle.chk_cmd_salvage.proofs.Salvaged.{prints_items, prints_none, prints_unread, looks_alone, looks_and_prints, load_last, print_last, none_last, fault_cause}
use Rattle.chk_cmd_salvage.proofs.Running.{load_runs, then_runs, as_damaged, ends_runs}
use Rattle.chk_cmd_salvage.proofs.printing.salvage.Goals as goal

pub returns-in_err-given : goal.returns-in_err-given
returns-in_err-given g c =
    let who = c.args.who.now in
    let name = c.args.name.now in
    let fault = c.in_err-given.field-0.0 in
    let reads = c.in_err-given.ensures.reads in
    let p = err_from_is_err_and c.from_residual.result c.from_residual.ensures.1 in
    rw (p.1, p.2)
    (record {
      prints = prints_unread who name fault reads;
      acts = looks_alone who name reads;
      last = load_last (Option (List ℕ)) fault c.in_err-given.ensures.last;
      runs = ends_runs fault reads;
      cause = fault_cause (Option (List ℕ)) fault _ _ _ refl c.in_err-given.ensures.cause;
    })

pub returns-in_default-clause-prints : goal.returns-in_default-clause-prints
returns-in_default-clause-prints g c =
    let bytes : c.as_slice.result.now ≡ unwrap_or c.in_ok-given.given [] =
    c.as_slice.ensures ∙ c.unwrap_or-bytes.ensures ∙ ap (λ (d : List ℕ). unwrap_or c.in_ok-given.given d) c.new.ensures in
    prints_none c.args.who.now c.args.name.now c.in_ok-given.given c.as_slice.result.now c.in_default.field-0 c.in_ok-given.ensures.whole
    c.in_ok-given.ensures.reads bytes c.in_default.ensures.header

pub returns-in_default-clause-acts : goal.returns-in_default-clause-acts
returns-in_default-clause-acts g c = looks_alone c.args.who.now c.args.name.now c.in_ok-given.ensures.reads

pub returns-in_default-clause-runs : goal.returns-in_default-clause-runs
returns-in_default-clause-runs g c = as_damaged (load_runs c.in_ok-given.ensures.script)

pub returns-in_err-print_items : goal.returns-in_err-print_items
returns-in_err-print_items g c =
    let who = c.args.who.now in
    let name = c.args.name.now in
    let given = c.in_ok-given.given in
    let reads = c.in_ok-given.ensures.reads in
    let items = items_left c.in-Ok.reader in
    let fault = c.in_err-print_items.field-0.0 in
    let bytes : c.as_slice.result.now ≡ unwrap_or given [] =
    c.as_slice.ensures ∙ c.unwrap_or-bytes.ensures ∙ ap (λ (d : List ℕ). unwrap_or given d) c.new.ensures in
    let p = err_from_is_err_and c.from_residual-in_err-print_items.result c.from_residual-in_err-print_items.ensures.1 in
    rw (p.1, p.2)
    (record {
      prints =
          prints_items who name given c.as_slice.result.now items (Err fault) _ c.in_ok-given.ensures.whole reads bytes
          c.in-Ok.ensures.header c.in-Ok.ensures.items c.in_err-print_items.ensures.told;
      acts = looks_and_prints who name items (Err fault) reads c.in_err-print_items.ensures.told;
      last = print_last who name items fault reads c.in_err-print_items.ensures.told;
      runs = ends_runs fault (looks_and_prints who name items (Err fault) reads c.in_err-print_items.ensures.told);
      cause = fault_cause (Unit {0}) fault _ _ _ c.in_ok-given.ensures.cause c.in_err-print_items.ensures.cause;
    })

pub returns : goal.returns
returns g c =
    let who = c.args.who.now in
    let name = c.args.name.now in
    let given = c.in_ok-given.given in
    let reads = c.in_ok-given.ensures.reads in
    let items = items_left c.in-Ok.reader in
    let bytes : c.as_slice.result.now ≡ unwrap_or given [] =
    c.as_slice.ensures ∙ c.unwrap_or-bytes.ensures ∙ ap (λ (d : List ℕ). unwrap_or given d) c.new.ensures in
    record {
      prints =
          prints_items who name given c.as_slice.result.now items (Ok tt) _ c.in_ok-given.ensures.whole reads bytes
          c.in-Ok.ensures.header c.in-Ok.ensures.items c.in_ok-print_items.ensures.told;
      acts = looks_and_prints who name items (Ok tt) reads c.in_ok-print_items.ensures.told;
      last = none_last (looks_and_prints who name items (Ok tt) reads c.in_ok-print_items.ensures.told);
      runs = then_runs (load_runs c.in_ok-given.ensures.script) c.in_ok-print_items.ensures.runs;
      cause = c.in_ok-print_items.ensures.cause ∙ c.in_ok-given.ensures.cause;
    }
