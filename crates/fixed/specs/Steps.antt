-- The steps of the fixed configuration that the definition has no name for.
use Rattle.std.specs.Prelude.{ℕ, List, [], ◌∷◌}
use Rattle.model.specs.Config.{SecurityLevelConfig, Config}
use Rattle.model.specs.Fixed.{fixed_service}
use Rattle.config.specs.Build.{settled, add_service}

-- services in both sessions, one after the other
abbrev pub add_services : Config → List ℕ → Config
add_services c [] = c
add_services c (sid ∷ rest) = add_services (settled (add_service c (fixed_service sid))) rest

-- the one security level
abbrev pub fixed_level : SecurityLevelConfig
fixed_level = record { level = 3; max_attempts = 3; lockout = 10000; seed_length = 4; key_length = 4 }
