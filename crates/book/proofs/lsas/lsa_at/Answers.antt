use Rattle.std.proofs.Common.{rules, ◌∙◌, ap}
use Rattle.format.specs.Book.{row_of}
use Rattle.format.specs.Header.{header_at}
use Rattle.util.proofs.Laws.{some_of}
use Rattle.book.proofs.Left.{lsa_inside, lsa_part, lsa_long, read_ok, read_not}
use Rattle.book.proofs.lsas.lsa_at.Goals as goal

pub overflow_add-place : goal.overflow_add-place
overflow_add-place c =
    let i = (lsa_inside c.args.body.now c.args.place c.in_ok-length.length (some_of _ _ _ c.declared_length.ensures c.in_ok-length.was)).within in
    search rules

pub slice_bounds-read-end : goal.slice_bounds-read-end
slice_bounds-read-end c =
    let i = (lsa_inside c.args.body.now c.args.place c.in_ok-length.length (some_of _ _ _ c.declared_length.ensures c.in_ok-length.was)).within in
    search rules

pub returns-in_err-header : goal.returns-in_err-header
returns-in_err-header c =
    let e = some_of _ _ _ c.declared_length.ensures c.in_ok-length.was in
    absurd (read_not c.args.version _ c.read.result c.requires.known (lsa_long c.args.body.now c.args.place c.in_ok-length.length e) c.read.ensures c.in_err-header.ensures.value)

pub returns : goal.returns
returns c =
    let e = some_of _ _ _ c.declared_length.ensures c.in_ok-length.was in
    let h = read_ok c.args.version _ c.read.result c.in_ok-header.header c.requires.known (lsa_long c.args.body.now c.args.place c.in_ok-length.length e) c.read.ensures c.in_ok-header.ensures.value in
    (e, c.new.ensures ∙ ap (row_of c.args.version) (h ∙ ap (header_at c.args.version) (lsa_part c.args.body.now c.args.place c.in_ok-length.length)))
