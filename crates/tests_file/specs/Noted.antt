-- What a file notes that it is asked.
use Rattle.std.specs.Prelude.{List, Option, Some, None, map, if◌then◌else◌}
use Rattle.file_device.specs.Call.{Call, written, cut, synced}
use Rattle.tests_file.specs.declared.noting.Noted.{Noted}
use Rattle.tests_file.specs.declared.noting.Noted.TheVariants.{Written, Cut, Synced}
use Rattle.tests_file.specs.declared.noting.NotingFile.{NotingFile}

abbrev pub call_of : Noted → Call
call_of (Written at bytes) = written at bytes.items
call_of (Cut len) = cut len
call_of Synced = synced

-- all that it was asked, unless a note found no memory
abbrev pub made_of : NotingFile → Option (List Call)
made_of file = if file.is_whole then Some (map call_of file.notes.items) else None
