-- Access rights by name (MS-DTYP 2.4.3): the place of each in a mask.
use Rattle.std.specs.Prelude.{ℕ, ◌+◌, ◌-◌, ◌^◌}

abbrev pub read_control : ℕ
read_control = 17

abbrev pub write_dac : ℕ
write_dac = 18

abbrev pub write_owner : ℕ
write_owner = 19

-- ACCESS_SYSTEM_SECURITY, the last right
abbrev pub system_security : ℕ
system_security = 24

-- MAXIMUM_ALLOWED, which asks for rights and is none
abbrev pub maximum_allowed : ℕ
maximum_allowed = 25

abbrev pub first_reserved : ℕ
first_reserved = 26

abbrev pub second_reserved : ℕ
second_reserved = 27

-- the generic rights, which mean others

abbrev pub generic_all : ℕ
generic_all = 28

abbrev pub generic_execute : ℕ
generic_execute = 29

abbrev pub generic_write : ℕ
generic_write = 30

abbrev pub generic_read : ℕ
generic_read = 31

-- the masks of single rights, of those that an owner has, of those below ACCESS_SYSTEM_SECURITY, and of all

abbrev pub write_owner_mask : ℕ
write_owner_mask = 2 ^ write_owner

abbrev pub system_security_mask : ℕ
system_security_mask = 2 ^ system_security

abbrev pub owner_mask : ℕ
owner_mask = 2 ^ read_control + 2 ^ write_dac

abbrev pub below_system_security : ℕ
below_system_security = 2 ^ system_security - 1

abbrev pub every_right : ℕ
every_right = 2 ^ (system_security + 1) - 1
