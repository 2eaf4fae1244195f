-- Why a publication was not opened.
use Rattle.published.specs.declared.opening.OpenError.{OpenError}
use Rattle.published.specs.declared.opening.OpenError.TheVariants.{Memory, SeatRefused}

-- the cause that is told stands: the first where it is want of memory, the second where it is a refused seat
abbrev pub Tells : OpenError → Type 0 → Type 0 → Type 0
Tells Memory memory readers = memory
Tells SeatRefused memory readers = readers
