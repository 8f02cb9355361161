-- The used records in their room: 255 places, of which the first hold them, and the others zeros.
use Rattle.std.specs.Prelude.{List, ◌++◌, ◌-◌, length, take, replicate}
use Rattle.gather.specs.declared.Used.{Used}
use Rattle.gather.specs.declared.room.UsedRecords.{UsedRecords}

unfoldable pub held : List Used → UsedRecords
held us = record { count = length us; room = us ++ replicate (255 - length us) (record { index = 0; place = 0 }) }

-- the used records that lie in it
unfoldable pub items : UsedRecords → List Used
items records = take records.count records.room
