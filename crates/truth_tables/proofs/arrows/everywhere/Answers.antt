use Rattle.std.proofs.Common.{◌<◌, length, arith}
use Rattle.functor_store.specs.Store.{functor_at}
use Rattle.truth_tables.specs.Tables.{number}
use Rattle.truth_tables.proofs.arrows.everywhere.Goals as goal

pub table-requires-clause-entries : goal.table-requires-clause-entries
table-requires-clause-entries c = λ o i low below.
    let F = functor_at c.args.store.now.sealed c.args.context in
    let r = c.requires.restricted in
    let site : o < length c.args.sources.now = omega (arith, r.objects) in
    let place = c.requires.chosen.within o in
    record {
      sealed = c.requires.sealed;
      object = (omega (arith, c.requires.site), site, omega (arith, c.requires.chosen.objects, site));
      element = omega (arith, r.counts o low, below);
      arrows = r.arrows o low;
      landing = record {
        arrows = λ k h. place k site h;
        objects = λ k h. let d = r.domains o (number c.args.chosen.now o k) low (place k site h) in omega (arith, d, c.requires.truths.objects);
        tuples = λ k h.
            let p = place k site h in
            let d = r.domains o (number c.args.chosen.now o k) low p in
            let e = r.elements o i (number c.args.chosen.now o k) low below p in
            let t = c.requires.truths.tuples (number c.args.sources.now o (number c.args.chosen.now o k)) d in
            omega (arith, e, t);
      };
    }
