use Rattle.std.proofs.Common.{rules, ◌≡◌, None, Ok, map, IsPermutation}
use Rattle.schema.specs.Schema.{schema_fault}
use Rattle.log_tools.specs.Head.{HeadLines, head_lines, present}
use Rattle.log_tools.proofs.HeadTexts.{no_store}
use Rattle.log_tools.proofs.describing.Head.of.Goals as goal

pub returns-clause-err : goal.returns-clause-err
returns-clause-err c =
    let lines : HeadLines = record { tables = c.in_ok-tables.tables.items; rows = c.in_ok-tables.rows.items } in
    let are : head_lines c.args.text.now ≡ Ok lines = search rules in
    let same : c.in_ok-schema.schema ≡ c.in_ok-tables.tables.items = search rules in
    let sound : schema_fault c.in_ok-tables.tables.items ≡ None = search rules in
    let given : IsPermutation (map present c.in_ok-tables.rows.items) c.in-Some.base = search rules in
    no_store c.args.text.now lines c.in_ok-schema.schema c.in-Some.base c.in-Err.fault are same sound given c.in-Err.ensures.err
