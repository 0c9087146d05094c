-- What is deployed and what is released are the versions that are in an environment.
use Rattle.std.specs.{Prelude.{Contains, ◌↔◌}, declared.cmp.Ordering.TheVariants.{Equal}}
use Rattle.std.proofs.Common.{◌≡◌, List, ◌++◌, map, Some, IsTrue, refl, sym, subst}
use Rattle.broker_core.specs.{declared.answer.DeployedItem.{DeployedItem}, declared.command.Version.{Version}, Gate.{IsPresent}, Listing.{Lists}}
use Rattle.broker_core.{specs.{Machine.{deployed_cmp, version_cmp}, State.{State}, Text.{Text, version}}, proofs.Order.{text_cmp-equal, ordering_then-equal}}
use Rattle.deploy_tables.{specs.Listings.{deployed_version}, proofs.{MatrixLemmas.{Contains-map_listed}, MatrixLoop.{iff-trans, Contains-append}}}

pub version_cmp-antisymmetric : (x y : Version) → version_cmp x y ≡ Equal → x ≡ y
version_cmp-antisymmetric x y tied =
    let it = ordering_then-equal _ _ tied in
    λ i. version (text_cmp-equal x.pacticipant y.pacticipant it.0 i) (text_cmp-equal x.name y.name it.1 i)

pub Lists-IsPresent : (s : State) (e : Text) (deployed : List DeployedItem) (released all found : List Version)
    → Lists deployed_cmp (λ x. s.deployed (e, x.pacticipant, x.instance) ≡ Some x.version) deployed → Lists version_cmp (λ v. IsTrue (s.released (e, v))) released
    → all ≡ map deployed_version deployed ++ released → Lists version_cmp (Contains all) found → Lists version_cmp (IsPresent s e) found
Lists-IsPresent s e deployed released all found of_deployed of_released is listed = record {
  sorted = listed.sorted;
  exactly = λ v. iff-trans (listed.exactly v) (Contains-append (map deployed_version deployed) released all is v (deployed_is v) (of_released.exactly v));
}
  where
    deployed_is : (v : Version) → Contains (map deployed_version deployed) v ↔ ((instance : Text) × (s.deployed (e, v.pacticipant, instance) ≡ Some v.name))
    deployed_is v = iff-trans (Contains-map_listed deployed_version deployed of_deployed v) (
      λ item. (item.0.instance, subst (λ (w : Version). s.deployed (e, w.pacticipant, item.0.instance) ≡ Some w.name) (sym item.2) item.1),
      λ there. (record { pacticipant = v.pacticipant; instance = there.0; version = v.name }, there.1, refl),
    )
