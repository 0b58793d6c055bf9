use Rattle.std.proofs.Common.{subst}
use Rattle.chk_world.specs.JobSteps.{IsOf, ReadsFile}
use Rattle.chk_record_index.proofs.Gathering.{every_then}
use Rattle.chk_book.specs.Loaded.{book_result}
use Rattle.chk_book.proofs.Added.{fails_later, cause_then}
use Rattle.chk_ctl_cat.specs.Loading.{HasDamage, once, again}
use Rattle.chk_ctl_cat.proofs.Loads.{damage_same}
use Rattle.chk_ctl_cat.proofs.loading.find_book.Goals as goal

pub returns-then-not-is_damaged : goal.returns-then-not-is_damaged
returns-then-not-is_damaged g c =
    let one = c.load_book-given.ensures in
    record {
      told = once (subst (λ b. HasDamage b (book_result c.load_book-given.result)) c.if-not-is_damaged.true c.is_damaged.ensures)
          (record { quiet = one.own c.requires.job; shown = one.shown; loaded = one.raw });
      own = one.own c.requires.job;
      only = one.only;
      last = one.last;
      cause = one.cause;
    }

pub returns : goal.returns
returns g c =
    let one = c.load_book-given.ensures in
    let two = c.load_book.ensures in
    let has = subst (λ b. HasDamage b (book_result c.load_book-given.result)) c.if-not-is_damaged.false c.is_damaged.ensures in
    let before = g.S.Site.fault_count c.args.site.now in
    let middle = g.S.Site.fault_count c.load_book-given.new.site in
    let after = g.S.Site.fault_count c.load_book.new.site in
    record {
      told = again has (record { quiet = one.own c.requires.job; shown = one.shown; loaded = one.raw })
          (record { quiet = two.own c.requires.job; shown = two.shown; loaded = two.raw });
      own = every_then (IsOf ReadsFile) (one.own c.requires.job) (two.own c.requires.job);
      only = two.only;
      last = fails_later c.load_book.result (one.own c.requires.job) two.last;
      cause = cause_then c.load_book.result before middle after (damage_same c.load_book-given.result before middle has one.cause) two.cause;
    }
