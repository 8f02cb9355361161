-- The two tables of the code have their rules: that of the powers passes the test, which antt computes over its 510 entries, and that of
-- the places is the list of places that antt computes.
use Rattle.field.specs.Byte.{plus, xtime, product, times, Powers, Places}
use Rattle.field.specs.declared.tables.TheConstants.{POWERS, PLACES}
use Rattle.field.proofs.Power.{follows, tested}
use Rattle.field.proofs.Places.{powers, table, seek, seeks, places, places_rule}
use Rattle.field.proofs.Test.{both}

pub powers_hold : Powers POWERS
unfolding both follows plus product times xtime
powers_hold = tested POWERS tt

pub places_hold : Places PLACES
unfolding places plus powers product seek seeks table times xtime
places_hold = places_rule
