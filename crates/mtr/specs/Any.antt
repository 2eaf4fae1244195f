-- The rows of a store of any kind.
use Rattle.rows.specs.Database.{Database}
use Rattle.mtr.specs.declared.any_store.AnyStore.{AnyStore}
use Rattle.mtr.specs.declared.any_store.AnyStore.TheVariants as stores

abbrev pub rows_of : AnyStore → Database
rows_of (stores.BTree rows) = rows
rows_of (stores.Vector rows) = rows
