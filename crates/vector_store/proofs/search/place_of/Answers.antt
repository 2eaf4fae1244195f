use Rattle.std.proofs.Common.{rules}
use Rattle.std.proofs.lemmas.List.Sorted.{answers_always}
use Rattle.vector_store.specs.Contents.{KeyedRow}
use Rattle.vector_store.proofs.Finding.{searched}
use Rattle.vector_store.proofs.search.place_of.Goals as goal

-- the closure gives a row's id
pub returns : goal.returns
returns c =
    let facts = c.binary_search_by_key.ensures in
    searched c.args.rows.now c.args.id c.requires c.binary_search_by_key.result facts.bound
    (facts.position (λ (row : KeyedRow). row.0) (answers_always _ _ _ (λ f a r g called. search rules)))
