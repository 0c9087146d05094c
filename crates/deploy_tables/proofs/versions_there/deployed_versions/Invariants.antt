use Rattle.std.proofs.Common.{◌≡◌, take, map}
use Rattle.deploy_tables.specs.Listings.{deployed_version}
use Rattle.deploy_tables.proofs.versions_there.deployed_versions.Given as goal

-- the versions so far
abbrev pub invariant-loop-item : goal.invariant-loop-item
invariant-loop-item l = l.found.items ≡ map deployed_version (take l.item-index l.deployed)
