pub mod ScopeScreens
