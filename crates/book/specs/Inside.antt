-- What the fields of a book are to contracts.
use Rattle.book_parts.specs.Parts.{Parts}
use Rattle.book.specs.declared.book.Book.TheInside.{Inside}
use Rattle.book.specs.Leasing.{leases_of}

-- the fields as parts
abbrev pub seen : Inside → Parts
seen b = record { index = b.index; cache = b.cache; roots = b.roots; cleaned = b.cleaned; leases = leases_of b.leases.items; cells = b.cells; map = b.map; snap = b.snap; next_id = b.next_id }
